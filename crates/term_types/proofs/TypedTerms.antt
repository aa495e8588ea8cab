-- What a term is read as has the type that is told, by induction over terms.
use Rattle.std.proofs.Common.{ℕ, Result, Ok, Err, ◌≡◌, refl, sym, subst, List, [], ◌∷◌, map}
use Rattle.scalar_value.specs.declared.value.ColType.{ColType}
use Rattle.scalar_value.specs.declared.value.ColType.TheVariants.{Lgl}
use Rattle.row_table.specs.declared.field.Field.{Field}
use Rattle.na_expr.specs.declared.expr.Expr.{Expr}
use Rattle.na_expr.specs.Types.{typed}
use Rattle.syntax_tree.specs.declared.tree.Term.{Term}
use Rattle.syntax_tree.specs.declared.tree.TermKind.{TermKind}
use Rattle.syntax_tree.specs.declared.tree.Call.{Call}
use Rattle.syntax_tree.specs.declared.tree.Arg.{Arg}
use Rattle.syntax_tree.specs.declared.tree.Pipe.{Pipe}
use Rattle.syntax_tree.specs.declared.tree.TermKind.TheOpen.{TermKind-F, Arg-F, Call-F, Pipe-F, Term-F}
use Rattle.syntax_tree.specs.declared.tree.TermKind.TheOpen as kind
use Rattle.syntax_tree.specs.declared.tree.TermKind.TheFolds.{map-TermKind, map-Arg, map-Call, map-Term, fold-TermKind, fold-Pipe, fold-roll-TermKind, fold-roll-Arg, fold-roll-Call, fold-roll-Term, ind-Term}
use Rattle.syntax_tree.specs.declared.tree.TermKind.TheViews.{roll-TermKind, roll-Arg, roll-Call, roll-Term}
use Rattle.term_calls.specs.declared.fault.TermFault.{TermFault}
use Rattle.term_calls.specs.declared.piece.Piece.{Piece}
use Rattle.term_calls.specs.Faults.{and_then}
use Rattle.term_calls.specs.Pieces.{type_as, expr_as}
use Rattle.term_types.specs.Terms.{Reading, Argument, kind_step, arg_step, call_step, pipe_step, term_step, reading, called, argument, piece}
use Rattle.term_types.specs.TermLaws.{TermsAreTyped, TermsAreTypedAs}
use Rattle.term_types.proofs.TypedPieces.{Every, IfGiven, IsTyped, typed_as}
use Rattle.term_types.proofs.TypedReadings.{IsRead, ArgumentRead, plain_read, column_typed, word_typed, unary_read, binary_read, call_read}

-- what is read of a kind of term at a place, and nothing of a pipeline
abbrev kind_reading : List Field → TermKind → ℕ → Reading
kind_reading schema = fold-TermKind (ℕ → Reading) Argument Reading (Unit {0}) Reading (kind_step schema) arg_step call_step pipe_step term_step

abbrev pipe_reading : List Field → Pipe → Unit {0}
pipe_reading schema = fold-Pipe (ℕ → Reading) Argument Reading (Unit {0}) Reading (kind_step schema) arg_step call_step pipe_step term_step

-- ---- what is shown of each part of the syntax

abbrev KindHolds : List Field → TermKind → Type 0
KindHolds schema k = (at : ℕ) → IsRead schema (kind_reading schema k at)

abbrev ArgHolds : List Field → Arg → Type 0
ArgHolds schema a = ArgumentRead schema (argument schema a)

abbrev CallHolds : List Field → Call → Type 0
CallHolds schema c = IsRead schema (called schema c)

abbrev PipeHolds : List Field → Pipe → Type 0
PipeHolds schema p = Unit {0}

abbrev TermHolds : List Field → Term → Type 0
TermHolds schema t = IsRead schema (reading schema t)

module _ (schema : List Field) where
  -- a layer with what is shown of its parts
  abbrev WithKind : Type 0
  WithKind = (k : TermKind) × KindHolds schema k

  abbrev WithArg : Type 0
  WithArg = (a : Arg) × ArgHolds schema a

  abbrev WithCall : Type 0
  WithCall = (c : Call) × CallHolds schema c

  abbrev WithPipe : Type 0
  WithPipe = (p : Pipe) × PipeHolds schema p

  abbrev WithTerm : Type 0
  WithTerm = (t : Term) × TermHolds schema t

  kind_layer : (y : TermKind-F WithKind WithArg WithCall WithPipe WithTerm) (at : ℕ) → IsRead schema
      (kind_step schema (map-TermKind TermKind Arg Call Pipe Term (ℕ → Reading) Argument Reading (Unit {0}) Reading (kind_reading schema) (argument schema) (called schema) (pipe_reading schema) (reading schema)
      (map-TermKind WithKind WithArg WithCall WithPipe WithTerm TermKind Arg Call Pipe Term (λ e. e.0) (λ e. e.0) (λ e. e.0) (λ e. e.0) (λ e. e.0) y)) at)
  kind_layer (kind.Name n) at = plain_read schema at _ (column_typed schema at n)
  kind_layer (kind.Whole z) at = plain_read schema at _ refl
  kind_layer (kind.Decimal m) at = plain_read schema at _ refl
  kind_layer (kind.Str text) at = plain_read schema at _ refl
  kind_layer (kind.Word w) at = plain_read schema at _ (word_typed schema w)
  kind_layer (kind.Unary o r) at = unary_read schema at o (reading schema r.0) r.1
  kind_layer (kind.Binary o l r) at = binary_read schema at o (reading schema l.0) (reading schema r.0) l.1 r.1
  kind_layer (kind.Call c) at = c.1
  kind_layer (kind.Pipe p) at = plain_read schema at _ tt

  args_read : (ws : List WithArg) → Every (ArgumentRead schema) (map (argument schema) (map (λ e. e.0) ws))
  args_read [] = tt
  args_read (w ∷ ws) = (w.1, args_read ws)

  kind_rolled : (x : TermKind-F TermKind Arg Call Pipe Term)
      → ((at : ℕ) → IsRead schema (kind_step schema (map-TermKind TermKind Arg Call Pipe Term (ℕ → Reading) Argument Reading (Unit {0}) Reading (kind_reading schema) (argument schema) (called schema) (pipe_reading schema) (reading schema) x) at))
      → KindHolds schema (roll-TermKind x)
  kind_rolled x h at =
      let P : (ℕ → Reading) → Type 0 = λ r. IsRead schema (r at) in
      subst P (sym (fold-roll-TermKind (ℕ → Reading) Argument Reading (Unit {0}) Reading (kind_step schema) arg_step call_step pipe_step term_step x)) (h at)

  arg_rolled : (x : Arg-F TermKind Arg Call Pipe Term) → TermHolds schema x.value → ArgHolds schema (roll-Arg x)
  arg_rolled x h =
      let P : Argument → Type 0 = λ a. ArgumentRead schema a in
      subst P (sym (fold-roll-Arg (ℕ → Reading) Argument Reading (Unit {0}) Reading (kind_step schema) arg_step call_step pipe_step term_step x)) h

  call_rolled : (x : Call-F TermKind Arg Call Pipe Term) → Every (ArgumentRead schema) (map (argument schema) x.args) → CallHolds schema (roll-Call x)
  call_rolled x h =
      let P : Reading → Type 0 = λ r. IsRead schema r in
      subst P (sym (fold-roll-Call (ℕ → Reading) Argument Reading (Unit {0}) Reading (kind_step schema) arg_step call_step pipe_step term_step x)) (call_read schema x.name x.at (map (argument schema) x.args) h)

  term_rolled : (x : Term-F TermKind Arg Call Pipe Term) → KindHolds schema x.kind → TermHolds schema (roll-Term x)
  term_rolled x h =
      let P : Reading → Type 0 = λ r. IsRead schema r in
      let inner : IsRead schema (kind_reading schema x.kind x.at) = h x.at in
      subst P (sym (fold-roll-Term (ℕ → Reading) Argument Reading (Unit {0}) Reading (kind_step schema) arg_step call_step pipe_step term_step x)) (record { value = inner.value; items = inner.items; sides = inner.sides })

  pub terms_hold : (t : Term) → TermHolds schema t
  terms_hold =
      ind-Term (KindHolds schema) (ArgHolds schema) (CallHolds schema) (PipeHolds schema) (TermHolds schema)
      (λ x y is. subst (λ z. KindHolds schema (roll-TermKind z)) is (kind_rolled (map-TermKind WithKind WithArg WithCall WithPipe WithTerm TermKind Arg Call Pipe Term (λ e. e.0) (λ e. e.0) (λ e. e.0) (λ e. e.0) (λ e. e.0) y) (kind_layer y)))
      (λ x y is. subst (λ z. ArgHolds schema (roll-Arg z)) is (arg_rolled (map-Arg WithKind WithArg WithCall WithPipe WithTerm TermKind Arg Call Pipe Term (λ e. e.0) (λ e. e.0) (λ e. e.0) (λ e. e.0) (λ e. e.0) y) y.value.1))
      (λ x y is. subst (λ z. CallHolds schema (roll-Call z)) is (call_rolled (map-Call WithKind WithArg WithCall WithPipe WithTerm TermKind Arg Call Pipe Term (λ e. e.0) (λ e. e.0) (λ e. e.0) (λ e. e.0) (λ e. e.0) y) (args_read y.args)))
      (λ x y is. tt)
      (λ x y is. subst (λ z. TermHolds schema (roll-Term z)) is (term_rolled (map-Term WithKind WithArg WithCall WithPipe WithTerm TermKind Arg Call Pipe Term (λ e. e.0) (λ e. e.0) (λ e. e.0) (λ e. e.0) (λ e. e.0) y) y.kind.1))

part_typed : (schema : List Field) (r : Result Piece TermFault) (p : Piece) → IfGiven (IsTyped schema) r → r ≡ Ok p → IsTyped schema p
part_typed schema r p h is = let P : Result Piece TermFault → Type 0 = λ x. IfGiven (IsTyped schema) x in subst P is h

pub terms_are_typed_as : TermsAreTypedAs
terms_are_typed_as schema t p k is = typed_as schema k p (part_typed schema (piece schema t) p (terms_hold schema t).value is)

by_piece : (schema : List Field) (r : Result Piece TermFault) (e : Expr × ColType) → IfGiven (IsTyped schema) r → and_then r (λ p. Ok (expr_as Lgl p, type_as Lgl p)) ≡ Ok e → typed schema e.0 ≡ Ok e.1
by_piece schema (Ok p) e h is =
    let same : (expr_as Lgl p, type_as Lgl p) ≡ e = cc in
    let P : Expr × ColType → Type 0 = λ x. typed schema x.0 ≡ Ok x.1 in
    subst P same (typed_as schema Lgl p h)
by_piece schema (Err f) e h is = cc

pub terms_are_typed : TermsAreTyped
terms_are_typed schema t e is = by_piece schema (piece schema t) e (terms_hold schema t).value is
