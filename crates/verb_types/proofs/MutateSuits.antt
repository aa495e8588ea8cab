-- A checked `mutate` suits its shape.
use Rattle.std.proofs.Common.{◌≡◌, ℕ, true, Some, None, Ok, List, [], ◌∷◌, ◌++◌, IsTrue, refl, sym, ap, ◌∙◌, subst}
use Rattle.std.proofs.lemmas.Bool.{and_from, and_parts}
use Rattle.scalar_value.specs.declared.value.ColType.{ColType}
use Rattle.row_table.specs.declared.field.Field.{Field}
use Rattle.row_table.specs.Tables.{has_name}
use Rattle.na_expr.specs.declared.expr.Expr.{Expr}
use Rattle.na_expr.specs.Types.{typed}
use Rattle.syntax_tree.specs.declared.tree.Arg.{Arg}
use Rattle.term_types.specs.Terms.{expression}
use Rattle.term_types.proofs.TypedPieces.{IfGiven, then_given}
use Rattle.verb_forms.specs.declared.part.Part.{Part}
use Rattle.verb_forms.specs.declared.verb.Verb.TheVariants.{Mutate}
use Rattle.verb_forms.specs.Columns.{with_column}
use Rattle.verb_forms.specs.Shapes.{ShapeValue, IsShape}
use Rattle.verb_forms.specs.After.{type_or_lgl, part_kind, with_part, with_parts}
use Rattle.verb_forms.specs.Suits.{is_empty, are_places, has_type, is_typed, are_typed, is_grouping}
use Rattle.verb_arguments.specs.Arguments.{name_of, value_of, is_named, names_of}
use Rattle.verb_arguments.specs.Forms.{by}
use Rattle.verb_types.specs.declared.values.Values.{Values}
use Rattle.verb_types.specs.Steps.{text_or_none, columns_of, grouping, plain_part, with_new, with_value, with_values, mutate_of}
use Rattle.verb_types.proofs.Grouped.{groups_stay}
use Rattle.verb_types.proofs.Moved.{with_column-has}
use Rattle.verb_types.proofs.Promises.{Promised, given_if, expression-typed, columns_of-places, ByFits, grouping_fits, ByIsFree, by_first, by_rest}

parts-last : (schema : List Field) (values : List (List ℕ × Part)) (v : List ℕ × Part) → with_parts schema (values ++ v ∷ []) ≡ with_part (with_parts schema values) v
parts-last schema [] v = refl
parts-last schema (w ∷ values) v = parts-last (with_part schema w) values v

typed-last : (schema : List Field) (values : List (List ℕ × Part)) (v : List ℕ × Part) → are_typed schema values ≡ true → is_typed (with_parts schema values) v.1 ≡ true → are_typed schema (values ++ v ∷ []) ≡ true
typed-last schema [] v h k = and_from (is_typed schema v.1) true k refl
typed-last schema (w ∷ values) v h k =
    let parts = and_parts (is_typed schema w.1) (are_typed (with_part schema w) values) h in
    and_from (is_typed schema w.1) (are_typed (with_part schema w) (values ++ v ∷ [])) parts.0 (typed-last (with_part schema w) values v parts.1 k)

-- the columns so far are those that the expressions so far leave
pub record MutateHas (x : ShapeValue) (had : Values) : Type 0 where
  by_fits : ByFits x had.columns
  seen : had.schema ≡ with_parts x.schema had.values
  all_typed : IsTrue (are_typed x.schema had.values)

new_value : (x : ShapeValue) (had : Values) (name : List ℕ) (e : Expr × ColType) → MutateHas x had → typed had.schema e.0 ≡ Ok e.1 → MutateHas x (with_new had name e)
new_value x had name e h is =
    let schema : List Field = with_parts x.schema had.values in
    let value : List ℕ × Part = (name, plain_part e.0) in
    let P : List Field → Type 0 = λ s. typed s e.0 ≡ Ok e.1 in
    let kind : typed schema e.0 ≡ Ok e.1 = subst P h.seen is in
    record {
      by_fits = h.by_fits;
      seen = ap (with_column name e.1) h.seen ∙ ap (λ t. with_column name (type_or_lgl t) schema) (sym kind) ∙ sym (parts-last x.schema had.values value);
      all_typed = typed-last x.schema had.values value h.all_typed (ap has_type kind);
    }

one_value : (x : ShapeValue) (had : Values) (a : Arg) → (is_named by a ≡ true → IsTrue (is_empty x.groups)) → MutateHas x had → IfGiven (MutateHas x) (with_value x.schema had a)
one_value x had a free h =
    given_if (MutateHas x) (is_named by a) _ _
    (λ e. then_given (λ places. IsTrue (are_places x.schema places)) (MutateHas x) (columns_of x.schema (names_of (value_of a))) (λ columns. Ok (record had { columns = Some columns }))
    (columns_of-places x.schema (names_of (value_of a))) (λ columns p. record { by_fits = (p, free e); seen = h.seen; all_typed = h.all_typed }))
    (λ e. then_given (λ (v : Expr × ColType). typed had.schema v.0 ≡ Ok v.1) (MutateHas x) (expression had.schema (value_of a)) (λ v. Ok (with_new had (text_or_none (name_of a)) v))
    (expression-typed had.schema (value_of a)) (λ v is. new_value x had (text_or_none (name_of a)) v h is))

all_values : (x : ShapeValue) (had : Values) (args : List Arg) → ByIsFree x args → MutateHas x had → IfGiven (MutateHas x) (with_values x.schema had args)
all_values x had [] free h = h
all_values x had (a ∷ args) free h =
    then_given (MutateHas x) (MutateHas x) (with_value x.schema had a) (λ now. with_values x.schema now args) (one_value x had a (by_first x a args free) h)
    (λ now k. all_values x now args (by_rest x a args free) k)

parts-has : (schema : List Field) (values : List (List ℕ × Part)) (name : List ℕ) → has_name name schema ≡ true → has_name name (with_parts schema values) ≡ true
parts-has schema [] name h = h
parts-has schema (v ∷ values) name h = parts-has (with_part schema v) values name (with_column-has schema v.0 (part_kind schema v.1) name h)

pub mutate_promised : (x : ShapeValue) (args : List Arg) → IsShape x → ByIsFree x args → IfGiven (Promised x) (mutate_of x args)
mutate_promised x args is free =
    then_given (MutateHas x) (Promised x) (with_values x.schema (record { columns = None; schema = x.schema; values = [] }) args) (λ had. Ok (Mutate (grouping x had.columns) had.values))
    (all_values x (record { columns = None; schema = x.schema; values = [] }) args free (record { by_fits = tt; seen = refl; all_typed = refl }))
    (λ had k. record {
      form = and_from (is_grouping x (grouping x had.columns)) (are_typed x.schema had.values) (grouping_fits x had.columns is k.by_fits) k.all_typed;
      grouped = λ d. groups_stay x.schema (with_parts x.schema had.values) x.groups (λ name h. parts-has x.schema had.values name h) is.grouped;
    })
