-- A checked `filter` suits its shape.
use Rattle.std.proofs.Common.{◌≡◌, true, Some, None, Ok, List, [], ◌∷◌, ◌++◌, IsTrue, refl, ap, ◌∙◌}
use Rattle.std.specs.List.{list_all}
use Rattle.std.proofs.lemmas.Bool.{and_from}
use Rattle.scalar_value.specs.declared.value.ColType.{ColType}
use Rattle.scalar_value.specs.declared.value.ColType.TheVariants.{Lgl}
use Rattle.row_table.specs.declared.field.Field.{Field}
use Rattle.na_expr.specs.declared.expr.Expr.{Expr}
use Rattle.na_expr.specs.Types.{typed, is_kind}
use Rattle.syntax_tree.specs.declared.tree.Term.{Term, out-Term}
use Rattle.syntax_tree.specs.declared.tree.Arg.{Arg}
use Rattle.term_types.specs.Terms.{expression}
use Rattle.term_types.proofs.TypedPieces.{IfGiven, then_given}
use Rattle.verb_forms.specs.declared.verb.Verb.TheVariants.{Filter}
use Rattle.verb_forms.specs.Shapes.{ShapeValue, IsShape}
use Rattle.verb_forms.specs.Suits.{is_empty, are_places, is_truth, is_condition, is_grouping}
use Rattle.verb_arguments.specs.Arguments.{value_of, is_named, names_of}
use Rattle.verb_arguments.specs.Forms.{by}
use Rattle.verb_types.specs.declared.conditions.Conditions.{Conditions}
use Rattle.verb_types.specs.Steps.{columns_of, grouping, plain_part, truth_part, condition, with_condition, with_conditions, filter_of}
use Rattle.verb_types.proofs.Places.{all-append}
use Rattle.verb_types.proofs.Promises.{Promised, given_if, expression-typed, columns_of-places, ByFits, grouping_fits, ByIsFree, by_first, by_rest}

condition-fits : (schema : List Field) (t : Term) → IfGiven (λ p. IsTrue (is_condition schema p)) (condition schema t)
condition-fits schema t =
    then_given (λ (e : Expr × ColType). typed schema e.0 ≡ Ok e.1) (λ p. IsTrue (is_condition schema p)) (expression schema t) (truth_part (out-Term t).at) (expression-typed schema t)
    (λ e is. given_if (λ p. IsTrue (is_condition schema p)) (is_kind e.1 Lgl) (Ok (plain_part e.0)) _ (λ h. ap is_truth is ∙ h) (λ h. tt))

abbrev FilterHas : ShapeValue → Conditions → Type 0
FilterHas x had = ByFits x had.columns × IsTrue (list_all (is_condition x.schema) had.parts)

one_condition : (x : ShapeValue) (had : Conditions) (a : Arg) → (is_named by a ≡ true → IsTrue (is_empty x.groups)) → FilterHas x had → IfGiven (FilterHas x) (with_condition x.schema had a)
one_condition x had a free h =
    given_if (FilterHas x) (is_named by a) _ _
    (λ e. then_given (λ places. IsTrue (are_places x.schema places)) (FilterHas x) (columns_of x.schema (names_of (value_of a))) (λ columns. Ok (record had { columns = Some columns }))
    (columns_of-places x.schema (names_of (value_of a))) (λ columns p. ((p, free e), h.1)))
    (λ e. then_given (λ p. IsTrue (is_condition x.schema p)) (FilterHas x) (condition x.schema (value_of a)) (λ p. Ok (record had { parts = had.parts ++ p ∷ [] }))
    (condition-fits x.schema (value_of a)) (λ p k. (h.0, all-append (is_condition x.schema) had.parts (p ∷ []) h.1 (and_from (is_condition x.schema p) true k refl))))

all_conditions : (x : ShapeValue) (had : Conditions) (args : List Arg) → ByIsFree x args → FilterHas x had → IfGiven (FilterHas x) (with_conditions x.schema had args)
all_conditions x had [] free h = h
all_conditions x had (a ∷ args) free h =
    then_given (FilterHas x) (FilterHas x) (with_condition x.schema had a) (λ now. with_conditions x.schema now args) (one_condition x had a (by_first x a args free) h)
    (λ now k. all_conditions x now args (by_rest x a args free) k)

pub filter_promised : (x : ShapeValue) (args : List Arg) → IsShape x → ByIsFree x args → IfGiven (Promised x) (filter_of x args)
filter_promised x args is free =
    then_given (FilterHas x) (Promised x) (with_conditions x.schema (record { columns = None; parts = [] }) args) (λ had. Ok (Filter (grouping x had.columns) had.parts))
    (all_conditions x (record { columns = None; parts = [] }) args free (tt, refl))
    (λ had k. record {
      form = and_from (is_grouping x (grouping x had.columns)) (list_all (is_condition x.schema) had.parts) (grouping_fits x had.columns is k.0) k.1;
      grouped = λ d. is.grouped;
    })
