-- What is shown of each verb that a call is read as, and steps that several verbs share.
use Rattle.std.proofs.Common.{◌≡◌, ℕ, Bool, true, false, ◌&&◌, ◌||◌, Option, Some, None, Result, Ok, Err, List, [], ◌∷◌, map, IsTrue, refl}
use Rattle.std.specs.Prelude.{if◌then◌else◌}
use Rattle.std.specs.List.{list_all, list_any}
use Rattle.std.specs.Str.{bytes_eq}
use Rattle.std.specs.Cmp.Lexicographic.{pointwise}
use Rattle.std.proofs.lemmas.Bool.{and_from, and_right, or_left}
use Rattle.scalar_value.specs.declared.value.ColType.{ColType}
use Rattle.row_table.specs.declared.field.Field.{Field}
use Rattle.row_table.specs.declared.table.Mark.{Mark}
use Rattle.na_expr.specs.declared.expr.Expr.{Expr}
use Rattle.na_expr.specs.Types.{typed}
use Rattle.syntax_tree.specs.declared.tree.Term.{Term, out-Term}
use Rattle.syntax_tree.specs.declared.tree.Arg.{Arg}
use Rattle.term_calls.specs.declared.fault.TermFault.{TermFault}
use Rattle.term_calls.specs.Faults.{and_then, all_of}
use Rattle.term_types.specs.Terms.{expression, place_of}
use Rattle.term_types.proofs.TypedPieces.{IfGiven, then_given}
use Rattle.term_types.proofs.TypedTerms.{terms_are_typed}
use Rattle.verb_forms.specs.declared.verb.Verb.{Verb}
use Rattle.verb_forms.specs.Columns.{names_at}
use Rattle.verb_forms.specs.Shapes.{ShapeValue, IsShape}
use Rattle.verb_forms.specs.Suits.{is_empty, is_place, are_places, is_grouping, has_form}
use Rattle.selections.specs.Columns.{with_columns}
use Rattle.verb_arguments.specs.Arguments.{column_name, is_named}
use Rattle.verb_arguments.specs.Forms.{by}
use Rattle.verb_types.specs.Checks.{is_grouped}
use Rattle.verb_types.specs.Steps.{column_or_unknown, text_or_none, column_of, columns_of, grouping}
use Rattle.verb_types.specs.Working.{KeepsGroups}
use Rattle.verb_types.proofs.Places.{placed, with_columns-places}
use Rattle.verb_types.proofs.Grouped.{groups_grouping}

-- the parts of the verb fit, and it keeps the groups columns
pub record Promised (x : ShapeValue) (v : Verb) : Type 0 where
  pub form : IsTrue (has_form v x)
  pub grouped : KeepsGroups x v

-- ---- steps

pub given_if : {A F : Type 0} (P : A → Type 0) (b : Bool) (r s : Result A F) → (b ≡ true → IfGiven P r) → (b ≡ false → IfGiven P s) → IfGiven P (if b then r else s)
given_if P true r s h k = h refl
given_if P false r s h k = k refl

given_where : {A F : Type 0} (P : A → Type 0) (r : Result A F) → ((x : A) → r ≡ Ok x → P x) → IfGiven P r
given_where P (Ok x) h = h x refl
given_where P (Err f) h = tt

-- all that is given passes where each does
pub all_given : {A B : Type 0} (p : B → Bool) (f : A → Result B TermFault) → ((x : A) → IfGiven (λ y. IsTrue (p y)) (f x)) → (xs : List A) → IfGiven (λ ys. IsTrue (list_all p ys)) (all_of (map f xs))
all_given p f each [] = refl
all_given p f each (x ∷ xs) =
    then_given (λ y. IsTrue (p y)) (λ ys. IsTrue (list_all p ys)) (f x) (λ y. and_then (all_of (map f xs)) (λ ys. Ok (y ∷ ys))) (each x)
    (λ y h. then_given (λ ys. IsTrue (list_all p ys)) (λ ys. IsTrue (list_all p ys)) (all_of (map f xs)) (λ ys. Ok (y ∷ ys)) (all_given p f each xs)
    (λ ys k. and_from (p y) (list_all p ys) h k))

-- the expression of a term has the type that is told with it
pub expression-typed : (schema : List Field) (t : Term) → IfGiven (λ (e : Expr × ColType). typed schema e.0 ≡ Ok e.1) (expression schema t)
expression-typed schema t = given_where (λ (e : Expr × ColType). typed schema e.0 ≡ Ok e.1) (expression schema t) (terms_are_typed schema t)

-- ---- columns by their names

found-place : (schema : List Field) (at : ℕ) (found : Option ℕ) → ((p : ℕ) → found ≡ Some p → IsTrue (is_place schema p)) → IfGiven (λ p. IsTrue (is_place schema p)) (column_or_unknown at found)
found-place schema at None h = tt
found-place schema at (Some p) h = h p refl

pub named-place : (schema : List Field) (at : ℕ) (name : List ℕ) → IfGiven (λ p. IsTrue (is_place schema p)) (column_or_unknown at (place_of name schema))
named-place schema at name = found-place schema at (place_of name schema) (λ p e. (placed schema name p e).0)

pub column_of-place : (schema : List Field) (t : Term) → IfGiven (λ p. IsTrue (is_place schema p)) (column_of schema t)
column_of-place schema t = named-place schema (out-Term t).at (text_or_none (column_name t))

pub columns_of-places : (schema : List Field) (ts : List Term) → IfGiven (λ places. IsTrue (are_places schema places)) (columns_of schema ts)
columns_of-places schema ts = all_given (is_place schema) (column_of schema) (column_of-place schema) ts

-- ---- the columns that group a verb

-- the columns of `.by` are columns of a table without groups
abbrev pub ByFits : ShapeValue → Option (List ℕ) → Type 0
ByFits x None = Unit {0}
ByFits x (Some columns) = IsTrue (are_places x.schema columns) × IsTrue (is_empty x.groups)

pub grouping_fits : (x : ShapeValue) (columns : Option (List ℕ)) → IsShape x → ByFits x columns → IsTrue (is_grouping x (grouping x columns))
grouping_fits x None is h = groups_grouping x is
grouping_fits x (Some columns) is h =
    let places : List ℕ = with_columns [] columns in
    and_from (are_places x.schema places) (is_empty x.groups || pointwise bytes_eq (names_at x.schema places) x.groups)
    (with_columns-places x.schema [] columns refl h.0) (or_left (is_empty x.groups) (pointwise bytes_eq (names_at x.schema places) x.groups) h.1)

-- `.by` stands on no grouped table
abbrev pub ByIsFree : ShapeValue → List Arg → Type 0
ByIsFree x args = (list_any (is_named by) args && is_grouped x) ≡ false

ungrouped : (schema : List Field) (groups : List (List ℕ)) (mark : Mark) → is_grouped (record { schema = schema; groups = groups; mark = mark }) ≡ false → is_empty groups ≡ true
ungrouped schema [] mark h = refl
ungrouped schema (g ∷ groups) mark h = cc

free_first : (named others grouped : Bool) → ((named || others) && grouped) ≡ false → named ≡ true → grouped ≡ false
free_first true others grouped h e = h
free_first false others grouped h e = cc

free_rest : (named others grouped : Bool) → ((named || others) && grouped) ≡ false → (others && grouped) ≡ false
free_rest true others grouped h = and_right others grouped h
free_rest false others grouped h = h

pub by_first : (x : ShapeValue) (a : Arg) (args : List Arg) → ByIsFree x (a ∷ args) → is_named by a ≡ true → IsTrue (is_empty x.groups)
by_first x a args h e = ungrouped x.schema x.groups x.mark (free_first (is_named by a) (list_any (is_named by) args) (is_grouped x) h e)

pub by_rest : (x : ShapeValue) (a : Arg) (args : List Arg) → ByIsFree x (a ∷ args) → ByIsFree x args
by_rest x a args h = free_rest (is_named by a) (list_any (is_named by) args) (is_grouped x) h
