-- The steps that a verb becomes: the filters and projects of its plan, in their order.
use Rattle.std.specs.Prelude.{ℕ, zero, suc, true, nat_eq, List, [], ◌∷◌, map, take, drop, length, ◌/◌}
use Rattle.std.specs.List.{filter, range_with_len}
use Rattle.scalar_value.specs.declared.value.Value.{Value}
use Rattle.scalar_value.specs.declared.value.Value.TheVariants as cell
use Rattle.scalar_value.specs.declared.value.ColType.TheVariants as kind
use Rattle.row_table.specs.declared.field.Field.{Field}
use Rattle.na_expr.specs.declared.expr.Expr.{Expr}
use Rattle.na_expr.specs.declared.expr.Expr.TheVariants.{Col, Lit, Call}
use Rattle.na_expr.specs.declared.expr.ExprFn.TheVariants as call
use Rattle.plan_nodes.specs.declared.node.NodeKind.TheVariants as node
use Rattle.chain_plans.specs.declared.nodes.Step.{Step}
use Rattle.verb_forms.specs.declared.part.Part.{Part}
use Rattle.verb_forms.specs.declared.verb.Verb.{Verb}
use Rattle.verb_forms.specs.declared.verb.Verb.TheVariants.{Filter, Mutate, Select, Rename, Relocate, GroupBy, Ungroup, DropNa, ReplaceNa}
use Rattle.verb_forms.specs.Columns.{place_of, kind_at, put, chosen_columns}
use Rattle.verb_forms.specs.After.{with_part}

-- ---- conditions

abbrev pub truth : Expr
truth = Lit (cell.Lgl true) kind.Lgl

-- Conditions as one, by `&`: TRUE for none. They are put together half by half, so that many conditions are few levels deep;
-- so many levels are always enough.
abbrev pub all_by : ℕ → List Expr → Expr
all_by levels [] = truth
all_by levels (e ∷ []) = e
all_by zero (e ∷ f ∷ es) = truth
all_by (suc levels) (e ∷ f ∷ es) =
    let half = length (e ∷ f ∷ es) / 2 in
    Call call.And (all_by levels (take half (e ∷ f ∷ es)) ∷ all_by levels (drop half (e ∷ f ∷ es)) ∷ [])

abbrev pub all_true : List Expr → Expr
all_true es = all_by (length es) es

-- `!is.na(column)`
abbrev pub is_there : ℕ → Expr
is_there at = Call call.Not (Call call.IsNa (Col at ∷ []) ∷ [])

-- a filter keeps the columns
abbrev pub filter_step : List Field → List Expr → Step
filter_step schema conditions = record { kind = node.Filter (all_true conditions); schema = schema }

-- ---- columns

-- each column as it is
abbrev pub all_columns : List Field → List Expr
all_columns schema = map (λ at. Col at) (range_with_len 0 (length schema))

-- one expression of `mutate`: in the place of an old column of that name, else last
abbrev pub value_step : List Field → List ℕ × Part → Step
value_step schema value = record { kind = node.Project (put (place_of value.0 schema) value.1.value (all_columns schema)); schema = with_part schema value }

-- a project for each expression, over the columns that the ones before it leave
abbrev pub value_steps : List Field → List (List ℕ × Part) → List Step
value_steps schema [] = []
value_steps schema (value ∷ values) = value_step schema value ∷ value_steps (with_part schema value) values

-- the chosen columns under their names
abbrev pub choice_step : List Field → List (ℕ × List ℕ) → Step
choice_step schema chosen = record { kind = node.Project (map (λ c. Col c.0) chosen); schema = chosen_columns schema chosen }

-- ---- replace_na

-- the values that replace a missing one in this column, as literals of its type
abbrev pub literals_for : List Field → List (ℕ × Value) → ℕ → List Expr
literals_for schema cells at = map (λ c. Lit c.1 (kind_at schema at)) (filter (λ c. nat_eq c.0 at) cells)

-- a column, or the first of these values that isn't missing where it is
abbrev pub or_literals : List Field → ℕ → List Expr → Expr
or_literals schema at [] = Col at
or_literals schema at (e ∷ es) = Call (call.Coalesce (kind_at schema at)) (Col at ∷ e ∷ es)

abbrev pub replaced_columns : List Field → List (ℕ × Value) → List Expr
replaced_columns schema cells = map (λ at. or_literals schema at (literals_for schema cells at)) (range_with_len 0 (length schema))

abbrev pub replace_step : List Field → List (ℕ × Value) → Step
replace_step schema cells = record { kind = node.Project (replaced_columns schema cells); schema = schema }

-- ---- verbs

-- the steps of a verb over these columns; the verbs that are not named here are not built yet
abbrev pub steps_of : Verb → List Field → List Step
steps_of (Filter by conditions) schema = filter_step schema (map (λ (part : Part). part.value) conditions) ∷ []
steps_of (Mutate by values) schema = value_steps schema values
steps_of (Select chosen) schema = choice_step schema chosen ∷ []
steps_of (Rename chosen) schema = choice_step schema chosen ∷ []
steps_of (Relocate chosen) schema = choice_step schema chosen ∷ []
steps_of (GroupBy columns) schema = []
steps_of Ungroup schema = []
steps_of (DropNa columns) schema = filter_step schema (map is_there columns) ∷ []
steps_of (ReplaceNa cells) schema = replace_step schema cells ∷ []
steps_of v schema = []
