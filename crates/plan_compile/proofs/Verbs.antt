-- Each verb that suits a table becomes steps that give what it means.
use Rattle.std.proofs.Common.{◌≡◌, ℕ, Bool, true, ◌&&◌, List, [], ◌∷◌, map, Result, Ok, Err, IsTrue, refl, sym, ◌∙◌, ap, subst}
use Rattle.std.specs.List.{list_all}
use Rattle.scalar_value.specs.declared.value.Value.{Value}
use Rattle.scalar_value.specs.declared.value.ColType.{ColType}
use Rattle.row_table.specs.declared.field.Field.{Field}
use Rattle.row_table.specs.declared.table.Mark.TheVariants.{Kept}
use Rattle.row_table.specs.Tables.{TableValue, IsTable, fits_row, fit_rows}
use Rattle.na_expr.specs.declared.expr.TypeFault.{TypeFault}
use Rattle.na_expr.specs.declared.expr.Expr.{Expr}
use Rattle.na_expr.specs.Evaluation.{val}
use Rattle.na_expr.specs.Types.{typed}
use Rattle.column_batch.specs.Batches.{kinds_of}
use Rattle.plan_nodes.specs.Kinds.{projected}
use Rattle.chain_plans.specs.Chains.{IsStep, AreSteps, chain_rows}
use Rattle.verb_forms.specs.declared.part.Part.{Part}
use Rattle.verb_forms.specs.declared.verb.Verb.{Verb}
use Rattle.verb_forms.specs.declared.verb.Verb.TheVariants.{Filter, Mutate, Select, Rename, Relocate, GroupBy, Ungroup, DropNa, ReplaceNa}
use Rattle.verb_forms.specs.Shapes.{ShapeValue, shape_of}
use Rattle.verb_forms.specs.Columns.{place_of, put}
use Rattle.verb_forms.specs.After.{type_or_lgl, part_kind, with_part, with_parts}
use Rattle.verb_forms.specs.Suits.{is_empty, has_type, is_condition, is_typed, are_typed, is_grouping, Suits}
use Rattle.verb_meaning.specs.Rows.{with_value, with_values}
use Rattle.verb_meaning.proofs.Fitting.{rows-fit}
use Rattle.plan_compile.specs.Steps.{all_columns, value_step, value_steps, filter_step, choice_step, is_there}
use Rattle.plan_compile.specs.Trees.{schema_behind}
use Rattle.plan_compile.specs.CompileLaws.{AreStepsOf, VerbsAreSteps}
use Rattle.plan_compile.proofs.Conditions.{left_true, right_true, values, conditions_truths, filter_rows, there_truths, whole_rows}
use Rattle.plan_compile.proofs.Typed.{both, HaveTypes, filter_stands, project_stands, put_types}
use Rattle.plan_compile.proofs.Columns.{map_same, columns_typed, columns_valued, map-put, choice_stands, choice_rows}
use Rattle.plan_compile.proofs.Replacing.{replace_stands, replaced_rows}

-- ---- mutate

type_is : (r : Result ColType TypeFault) → has_type r ≡ true → r ≡ Ok (type_or_lgl r)
type_is (Ok t) h = refl
type_is (Err f) h = absurd (cc)

-- the value of one expression in its place
abbrev placed : List Field → List ℕ × Part → List Expr
placed schema value = put (place_of value.0 schema) value.1.value (all_columns schema)

value_typed : (schema : List Field) (value : List ℕ × Part) → IsTrue (is_typed schema value.1) → HaveTypes schema (placed schema value) (kinds_of (with_part schema value))
value_typed schema value h =
    let field : Field = record { name = value.0; kind = part_kind schema value.1 } in
    subst (λ ts. HaveTypes schema (placed schema value) ts) (sym (map-put (λ (f : Field). f.kind) (place_of value.0 schema) field schema))
    (put_types schema (place_of value.0 schema) (all_columns schema) (kinds_of schema) value.1.value (part_kind schema value.1) (columns_typed schema)
    (type_is (typed schema value.1.value) (right_true (is_empty value.1.calls) (has_type (typed schema value.1.value)) h)))

value_stands : (schema : List Field) (value : List ℕ × Part) → IsTrue (is_typed schema value.1) → IsStep schema (value_step schema value)
value_stands schema value h = project_stands schema (with_part schema value) (placed schema value) (value_typed schema value h)

value_rows : (schema : List Field) (value : List ℕ × Part) (rows : List (List Value)) → IsTrue (fit_rows schema rows) → projected (placed schema value) rows ≡ map (with_value schema value) rows
value_rows schema value rows fit =
    map_same schema (λ row. map (val row) (placed schema value)) (with_value schema value)
    (λ row fits. map-put (val row) (place_of value.0 schema) value.1.value (all_columns schema) ∙ ap (put (place_of value.0 schema) (val row value.1.value)) (columns_valued schema row fits))
    rows fit

-- the rows after one expression fit the columns after it
value_fits : (schema : List Field) (value : List ℕ × Part) (rows : List (List Value)) → IsTrue (is_typed schema value.1) → IsTrue (fit_rows schema rows) → IsTrue (fit_rows (with_part schema value) (map (with_value schema value) rows))
value_fits schema value rows h fit = rows-fit (Mutate [] (value ∷ [])) (record { schema = schema; groups = []; mark = Kept }) rows (both (is_typed schema value.1) true h refl) fit

values_stand : (schema : List Field) (values : List (List ℕ × Part)) → IsTrue (are_typed schema values) → AreSteps schema (value_steps schema values)
values_stand schema [] h = tt
values_stand schema (value ∷ values) h = (
  value_stands schema value (left_true (is_typed schema value.1) (are_typed (with_part schema value) values) h),
  values_stand (with_part schema value) values (right_true (is_typed schema value.1) (are_typed (with_part schema value) values) h),
)

values_columns : (schema : List Field) (values : List (List ℕ × Part)) → schema_behind schema (value_steps schema values) ≡ with_parts schema values
values_columns schema [] = refl
values_columns schema (value ∷ values) = values_columns (with_part schema value) values

values_rows : (schema : List Field) (values : List (List ℕ × Part)) (rows : List (List Value)) → IsTrue (are_typed schema values) → IsTrue (fit_rows schema rows) → chain_rows (value_steps schema values) rows ≡ with_values schema values rows
values_rows schema [] rows h fit = refl
values_rows schema (value ∷ values) rows h fit =
    ap (chain_rows (value_steps (with_part schema value) values)) (value_rows schema value rows fit)
    ∙ values_rows (with_part schema value) values (map (with_value schema value) rows) (right_true (is_typed schema value.1) (are_typed (with_part schema value) values) h)
    (value_fits schema value rows (left_true (is_typed schema value.1) (are_typed (with_part schema value) values) h) fit)

-- ---- every verb

pub verbs_are_steps : VerbsAreSteps
verbs_are_steps (Filter by conditions) x is suits =
    let h : IsTrue (list_all (is_condition x.schema) conditions) = right_true (is_grouping (shape_of x) by) (list_all (is_condition x.schema) conditions) suits.form in
    record {
      steps = (filter_stands x.schema (values conditions) (conditions_truths x.schema conditions h), tt);
      columns = refl;
      rows = filter_rows x.schema conditions x.rows h is.filled;
    }
verbs_are_steps (Mutate by values) x is suits =
    let h : IsTrue (are_typed x.schema values) = right_true (is_grouping (shape_of x) by) (are_typed x.schema values) suits.form in
    record {
      steps = values_stand x.schema values h;
      columns = values_columns x.schema values;
      rows = values_rows x.schema values x.rows h is.filled;
    }
verbs_are_steps (Select chosen) x is suits = record { steps = (choice_stands x.schema chosen suits.form, tt); columns = refl; rows = choice_rows chosen x.rows }
verbs_are_steps (Rename chosen) x is suits = record { steps = (choice_stands x.schema chosen suits.form, tt); columns = refl; rows = choice_rows chosen x.rows }
verbs_are_steps (Relocate chosen) x is suits = record { steps = (choice_stands x.schema chosen suits.form, tt); columns = refl; rows = choice_rows chosen x.rows }
verbs_are_steps (GroupBy columns) x is suits = record { steps = tt; columns = refl; rows = refl }
verbs_are_steps Ungroup x is suits = record { steps = tt; columns = refl; rows = refl }
verbs_are_steps (DropNa columns) x is suits =
    record {
      steps = (filter_stands x.schema (map is_there columns) (there_truths x.schema columns suits.form), tt);
      columns = refl;
      rows = whole_rows x.schema columns x.rows suits.form is.filled;
    }
verbs_are_steps (ReplaceNa cells) x is suits = record { steps = (replace_stands x.schema cells suits.form, tt); columns = refl; rows = replaced_rows x.schema cells x.rows suits.form is.filled }
verbs_are_steps v x is suits = record { steps = tt; columns = refl; rows = refl }
