-- The columns that a selector gives are columns of the table, by induction over terms.
use Rattle.std.proofs.Common.{◌≡◌, ℕ, ◌+◌, ◌≤◌, Bool, true, false, not, ◌&&◌, cond, codes, bytes_eq, nat_eq, Option, Some, None, Result, Ok, List, [], ◌∷◌, map, length, IsTrue, refl, sym, subst, arith}
use Rattle.std.specs.Prelude.{if◌then◌else◌, nat_lt, min, max}
use Rattle.std.specs.List.{starts_with, ends_with}
use Rattle.std.proofs.lemmas.Bool.{and_from, lt-ltb}
use Rattle.row_table.specs.declared.field.Field.{Field}
use Rattle.token_scan.specs.declared.token.Oper.{Oper}
use Rattle.syntax_tree.specs.declared.tree.Term.{Term}
use Rattle.syntax_tree.specs.declared.tree.TermKind.{TermKind}
use Rattle.syntax_tree.specs.declared.tree.Call.{Call}
use Rattle.syntax_tree.specs.declared.tree.Arg.{Arg}
use Rattle.syntax_tree.specs.declared.tree.Pipe.{Pipe}
use Rattle.syntax_tree.specs.declared.tree.TermKind.TheOpen.{TermKind-F, Arg-F, Call-F, Pipe-F, Term-F}
use Rattle.syntax_tree.specs.declared.tree.TermKind.TheOpen as kind
use Rattle.syntax_tree.specs.declared.tree.TermKind.TheFolds.{map-TermKind, map-Arg, map-Call, map-Term, fold-TermKind, fold-Pipe, fold-roll-TermKind, fold-roll-Arg, fold-roll-Call, fold-roll-Term, ind-Term}
use Rattle.syntax_tree.specs.declared.tree.TermKind.TheViews.{roll-TermKind, roll-Arg, roll-Call, roll-Term}
use Rattle.term_calls.specs.declared.fault.TermFault.{TermFault}
use Rattle.term_calls.specs.Faults.{and_then}
use Rattle.term_types.specs.Terms.{place_of}
use Rattle.term_types.proofs.TypedPieces.{Every, IfGiven, then_given}
use Rattle.selections.specs.declared.selector.Selector.{Selector}
use Rattle.selections.specs.Columns.{all_places, is_among, with_or_without, between, lowered, contains_text, places_from}
use Rattle.selections.specs.Selectors.{SelectorArgument, column_or_unknown, column_selector, first_away, start, with_selector, with_selectors, selection, values, by_one_text, by_text, all_columns, list_of, call_selector, away_of, first_place, range_of, kind_step, arg_step, call_step, pipe_step, term_step, selector, called, argument}
use Rattle.verb_forms.specs.Suits.{is_place, are_places}
use Rattle.verb_types.proofs.Places.{all-filter, all-places, with_columns-places, placed}

-- columns where there is no fault
abbrev pub PlacesGiven : List Field → Result (List ℕ) TermFault → Type 0
PlacesGiven schema r = IfGiven (λ columns. IsTrue (are_places schema columns)) r

abbrev pub Selects : List Field → Selector → Type 0
Selects schema s = PlacesGiven schema s.columns

-- ---- selections

with_or_without-places : (schema : List Field) (away : Bool) (had columns : List ℕ) → IsTrue (are_places schema had) → IsTrue (are_places schema columns) → IsTrue (are_places schema (with_or_without had away columns))
with_or_without-places schema true had columns h k = all-filter (is_place schema) (λ at. not (is_among columns at)) had h
with_or_without-places schema false had columns h k = with_columns-places schema had columns h k

pub with_selector-places : (schema : List Field) (had : List ℕ) (s : Selector) (columns : List ℕ) → IsTrue (are_places schema had) → IsTrue (are_places schema columns) → IsTrue (are_places schema (with_selector had s columns))
with_selector-places schema had s columns h k = with_or_without-places schema s.away had columns h k

selectors-places : (schema : List Field) (had : List ℕ) (ss : List Selector) → IsTrue (are_places schema had) → Every (Selects schema) ss → PlacesGiven schema (with_selectors had ss)
selectors-places schema had [] h k = h
selectors-places schema had (s ∷ ss) h k =
    then_given (λ columns. IsTrue (are_places schema columns)) (λ columns. IsTrue (are_places schema columns)) s.columns (λ columns. with_selectors (with_selector had s columns) ss) k.0
    (λ columns p. selectors-places schema (with_selector had s columns) ss (with_selector-places schema had s columns h p) k.1)

pub start-places : (schema : List Field) (ss : List Selector) → IsTrue (are_places schema (start schema ss))
start-places schema ss = elim (first_away ss) as (λ b. IsTrue (are_places schema (cond b (all_places schema) []))) [ true ↦ all-places schema | false ↦ refl ]

selection-places : (schema : List Field) (ss : List Selector) → Every (Selects schema) ss → PlacesGiven schema (selection schema ss)
selection-places schema ss k = selectors-places schema (start schema ss) ss (start-places schema ss) k

-- ---- the parts of the syntax

from-places : (schema : List Field) (test : List ℕ → Bool) (at : ℕ) (fields : List Field) → at + length fields ≤ length schema → IsTrue (are_places schema (places_from test at fields))
from-places schema test at [] h = refl
from-places schema test at (f ∷ fields) h =
    let rest : IsTrue (are_places schema (places_from test (at + 1) fields)) = from-places schema test (at + 1) fields (omega arith) in
    elim (test f.name) as (λ b. IsTrue (are_places schema (cond b (at ∷ places_from test (at + 1) fields) (places_from test (at + 1) fields)))) [
      | true ↦ and_from (is_place schema at) (are_places schema (places_from test (at + 1) fields)) (lt-ltb at (length schema) (omega arith)) rest
      | false ↦ rest
    ]

one_text-selects : (schema : List Field) (test : List ℕ → List ℕ → Bool) (name text : Option (List ℕ)) → Selects schema (by_one_text schema test name text)
one_text-selects schema test None (Some text) = from-places schema (λ name. test (lowered text) (lowered name)) 0 schema (omega arith)
one_text-selects schema test None None = refl
one_text-selects schema test (Some name) text = refl

text-selects : (schema : List Field) (test : List ℕ → List ℕ → Bool) (args : List SelectorArgument) → Selects schema (by_text schema test args)
text-selects schema test [] = refl
text-selects schema test (a ∷ []) = one_text-selects schema test a.name a.value.text
text-selects schema test (a ∷ b ∷ args) = refl

all-selects : (schema : List Field) (args : List SelectorArgument) → Selects schema (all_columns schema args)
all-selects schema [] = all-places schema
all-selects schema (a ∷ args) = refl

either-selects : (schema : List Field) (b : Bool) (s t : Selector) → Selects schema s → Selects schema t → Selects schema (if b then s else t)
either-selects schema true s t h k = h
either-selects schema false s t h k = k

abbrev ArgumentSelects : List Field → SelectorArgument → Type 0
ArgumentSelects schema a = Selects schema a.value

values-select : (schema : List Field) (args : List SelectorArgument) → Every (ArgumentSelects schema) args → Every (Selects schema) (values args)
values-select schema [] h = tt
values-select schema (a ∷ args) h = (h.0, values-select schema args h.1)

call-selects : (schema : List Field) (name : List ℕ) (args : List SelectorArgument) → Every (ArgumentSelects schema) args → Selects schema (call_selector schema name args)
call-selects schema name args h =
    either-selects schema (bytes_eq name (codes "c")) (list_of schema args) _ (selection-places schema (values args) (values-select schema args h))
    (either-selects schema (bytes_eq name (codes "everything")) (all_columns schema args) _ (all-selects schema args)
    (either-selects schema (bytes_eq name (codes "starts_with")) _ _ (text-selects schema (λ text column. starts_with nat_eq column text) args)
    (either-selects schema (bytes_eq name (codes "ends_with")) _ _ (text-selects schema (λ text column. ends_with nat_eq column text) args)
    (either-selects schema (bytes_eq name (codes "contains")) _ _ (text-selects schema contains_text args) refl))))

found-selects : (schema : List Field) (at : ℕ) (found : Option ℕ) → ((p : ℕ) → found ≡ Some p → IsTrue (is_place schema p)) → PlacesGiven schema (column_or_unknown at found)
found-selects schema at None h = tt
found-selects schema at (Some p) h = and_from (is_place schema p) true (h p refl) refl

column-selects : (schema : List Field) (at : ℕ) (name : List ℕ) → Selects schema (column_selector at (place_of name schema))
column-selects schema at name = found-selects schema at (place_of name schema) (λ p e. (placed schema name p e).0)

away-selects : (schema : List Field) (o : Oper) (s : Selector) → Selects schema s → Selects schema (away_of schema o s)
away-selects schema o s h = selection-places schema (s ∷ []) (h, tt)

range-selects : (schema : List Field) (o : Oper) (a b : Selector) → Selects schema a → Selects schema b → Selects schema (range_of schema o a b)
range-selects schema o a b h k =
    then_given (λ columns. IsTrue (are_places schema columns)) (λ columns. IsTrue (are_places schema columns)) a.columns (λ x. and_then b.columns (λ y. Ok (between (first_place x) (first_place y) schema))) h
    (λ x p. then_given (λ columns. IsTrue (are_places schema columns)) (λ columns. IsTrue (are_places schema columns)) b.columns (λ y. Ok (between (first_place x) (first_place y) schema)) k
    (λ y q. all-filter (is_place schema) (λ at. not (nat_lt at (min (first_place x) (first_place y))) && not (nat_lt (max (first_place x) (first_place y)) at)) (all_places schema) (all-places schema)))

-- ---- terms

abbrev kind_selector : List Field → TermKind → ℕ → Selector
kind_selector schema = fold-TermKind (ℕ → Selector) SelectorArgument Selector (Unit {0}) Selector (kind_step schema) arg_step (call_step schema) pipe_step term_step

abbrev pipe_selector : List Field → Pipe → Unit {0}
pipe_selector schema = fold-Pipe (ℕ → Selector) SelectorArgument Selector (Unit {0}) Selector (kind_step schema) arg_step (call_step schema) pipe_step term_step

abbrev KindHolds : List Field → TermKind → Type 0
KindHolds schema k = (at : ℕ) → Selects schema (kind_selector schema k at)

abbrev ArgHolds : List Field → Arg → Type 0
ArgHolds schema a = ArgumentSelects schema (argument schema a)

abbrev CallHolds : List Field → Call → Type 0
CallHolds schema c = Selects schema (called schema c)

abbrev PipeHolds : List Field → Pipe → Type 0
PipeHolds schema p = Unit {0}

abbrev TermHolds : List Field → Term → Type 0
TermHolds schema t = Selects schema (selector schema t)

module _ (schema : List Field) where
  -- a layer with what is shown of its parts
  abbrev WithKind : Type 0
  WithKind = (k : TermKind) × KindHolds schema k

  abbrev WithArg : Type 0
  WithArg = (a : Arg) × ArgHolds schema a

  abbrev WithCall : Type 0
  WithCall = (c : Call) × CallHolds schema c

  abbrev WithPipe : Type 0
  WithPipe = (p : Pipe) × PipeHolds schema p

  abbrev WithTerm : Type 0
  WithTerm = (t : Term) × TermHolds schema t

  kind_layer : (y : TermKind-F WithKind WithArg WithCall WithPipe WithTerm) (at : ℕ) → Selects schema
      (kind_step schema (map-TermKind TermKind Arg Call Pipe Term (ℕ → Selector) SelectorArgument Selector (Unit {0}) Selector (kind_selector schema) (argument schema) (called schema) (pipe_selector schema) (selector schema)
      (map-TermKind WithKind WithArg WithCall WithPipe WithTerm TermKind Arg Call Pipe Term (λ e. e.0) (λ e. e.0) (λ e. e.0) (λ e. e.0) (λ e. e.0) y)) at)
  kind_layer (kind.Name n) at = column-selects schema at n
  kind_layer (kind.Whole z) at = refl
  kind_layer (kind.Decimal m) at = refl
  kind_layer (kind.Str text) at = refl
  kind_layer (kind.Word w) at = refl
  kind_layer (kind.Unary o r) at = away-selects schema o (selector schema r.0) r.1
  kind_layer (kind.Binary o l r) at = range-selects schema o (selector schema l.0) (selector schema r.0) l.1 r.1
  kind_layer (kind.Call c) at = c.1
  kind_layer (kind.Pipe p) at = refl

  args_select : (ws : List WithArg) → Every (ArgumentSelects schema) (map (argument schema) (map (λ e. e.0) ws))
  args_select [] = tt
  args_select (w ∷ ws) = (w.1, args_select ws)

  kind_rolled : (x : TermKind-F TermKind Arg Call Pipe Term)
      → ((at : ℕ) → Selects schema (kind_step schema (map-TermKind TermKind Arg Call Pipe Term (ℕ → Selector) SelectorArgument Selector (Unit {0}) Selector (kind_selector schema) (argument schema) (called schema) (pipe_selector schema) (selector schema) x) at))
      → KindHolds schema (roll-TermKind x)
  kind_rolled x h at =
      let P : (ℕ → Selector) → Type 0 = λ r. Selects schema (r at) in
      subst P (sym (fold-roll-TermKind (ℕ → Selector) SelectorArgument Selector (Unit {0}) Selector (kind_step schema) arg_step (call_step schema) pipe_step term_step x)) (h at)

  arg_rolled : (x : Arg-F TermKind Arg Call Pipe Term) → TermHolds schema x.value → ArgHolds schema (roll-Arg x)
  arg_rolled x h =
      let P : SelectorArgument → Type 0 = λ a. ArgumentSelects schema a in
      subst P (sym (fold-roll-Arg (ℕ → Selector) SelectorArgument Selector (Unit {0}) Selector (kind_step schema) arg_step (call_step schema) pipe_step term_step x)) h

  call_rolled : (x : Call-F TermKind Arg Call Pipe Term) → Every (ArgumentSelects schema) (map (argument schema) x.args) → CallHolds schema (roll-Call x)
  call_rolled x h =
      let P : Selector → Type 0 = λ s. Selects schema s in
      subst P (sym (fold-roll-Call (ℕ → Selector) SelectorArgument Selector (Unit {0}) Selector (kind_step schema) arg_step (call_step schema) pipe_step term_step x)) (call-selects schema x.name (map (argument schema) x.args) h)

  term_rolled : (x : Term-F TermKind Arg Call Pipe Term) → KindHolds schema x.kind → TermHolds schema (roll-Term x)
  term_rolled x h =
      let P : Selector → Type 0 = λ s. Selects schema s in
      subst P (sym (fold-roll-Term (ℕ → Selector) SelectorArgument Selector (Unit {0}) Selector (kind_step schema) arg_step (call_step schema) pipe_step term_step x)) (h x.at)

  pub terms_select : (t : Term) → TermHolds schema t
  terms_select =
      ind-Term (KindHolds schema) (ArgHolds schema) (CallHolds schema) (PipeHolds schema) (TermHolds schema)
      (λ x y is. subst (λ z. KindHolds schema (roll-TermKind z)) is (kind_rolled (map-TermKind WithKind WithArg WithCall WithPipe WithTerm TermKind Arg Call Pipe Term (λ e. e.0) (λ e. e.0) (λ e. e.0) (λ e. e.0) (λ e. e.0) y) (kind_layer y)))
      (λ x y is. subst (λ z. ArgHolds schema (roll-Arg z)) is (arg_rolled (map-Arg WithKind WithArg WithCall WithPipe WithTerm TermKind Arg Call Pipe Term (λ e. e.0) (λ e. e.0) (λ e. e.0) (λ e. e.0) (λ e. e.0) y) y.value.1))
      (λ x y is. subst (λ z. CallHolds schema (roll-Call z)) is (call_rolled (map-Call WithKind WithArg WithCall WithPipe WithTerm TermKind Arg Call Pipe Term (λ e. e.0) (λ e. e.0) (λ e. e.0) (λ e. e.0) (λ e. e.0) y) (args_select y.args)))
      (λ x y is. tt)
      (λ x y is. subst (λ z. TermHolds schema (roll-Term z)) is (term_rolled (map-Term WithKind WithArg WithCall WithPipe WithTerm TermKind Arg Call Pipe Term (λ e. e.0) (λ e. e.0) (λ e. e.0) (λ e. e.0) (λ e. e.0) y) y.kind.1))
