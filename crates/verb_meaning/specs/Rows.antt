-- The rows after a verb, over the whole list of rows.
use Rattle.std.specs.Prelude.{ℕ, Bool, if◌then◌else◌, List, [], ◌∷◌, map, fold, slice_set}
use Rattle.std.specs.List.{filter, list_all}
use Rattle.scalar_value.specs.declared.value.Value.{Value}
use Rattle.scalar_value.specs.Truths.{is_true, is_missing, is_there}
use Rattle.row_table.specs.declared.field.Field.{Field}
use Rattle.agg_rules.specs.Windows.{value_at}
use Rattle.na_expr.specs.Evaluation.{val}
use Rattle.verb_forms.specs.declared.part.Part.{Part}
use Rattle.verb_forms.specs.declared.verb.Verb.{Verb}
use Rattle.verb_forms.specs.declared.verb.Verb.TheVariants.{Filter, Mutate, Select, Rename, Relocate, GroupBy, Ungroup, DropNa, ReplaceNa}
use Rattle.verb_forms.specs.Columns.{place_of, put}
use Rattle.verb_forms.specs.After.{with_part}

-- the value of an expression without aggregates and window calls
abbrev pub part_value : Part → List Value → Value
part_value part row = val row part.value

-- filter: the rows on which every condition is TRUE
abbrev pub passes : List Part → List Value → Bool
passes conditions row = list_all (λ part. is_true (part_value part row)) conditions

-- mutate: the row with the value of one expression, in the place of an old column of that name, else last
abbrev pub with_value : List Field → List ℕ × Part → List Value → List Value
with_value schema value row = put (place_of value.0 schema) (part_value value.1 row) row

-- one expression after the other over all rows, each over the columns that the ones before it leave
abbrev pub with_values : List Field → List (List ℕ × Part) → List (List Value) → List (List Value)
with_values schema [] rows = rows
with_values schema (value ∷ values) rows = with_values (with_part schema value) values (map (with_value schema value) rows)

-- select, rename, relocate: the values of the chosen columns
abbrev pub picked : List (ℕ × List ℕ) → List Value → List Value
picked chosen row = map (λ c. value_at row c.0) chosen

-- drop_na: whether no value in these columns is missing
abbrev pub is_whole : List ℕ → List Value → Bool
is_whole columns row = list_all (λ at. is_there (value_at row at)) columns

-- replace_na: the row with another value where the one in this column is missing
abbrev pub with_cell : List Value → ℕ × Value → List Value
with_cell row cell = if is_missing (value_at row cell.0) then slice_set row cell.0 cell.1 else row

abbrev pub with_cells : List (ℕ × Value) → List Value → List Value
with_cells cells row = fold with_cell row cells

-- the rows after a verb; the verbs that are not named here are not built yet
abbrev pub rows_after : Verb → List Field → List (List Value) → List (List Value)
rows_after (Filter by conditions) schema rows = filter (passes conditions) rows
rows_after (Mutate by values) schema rows = with_values schema values rows
rows_after (Select chosen) schema rows = map (picked chosen) rows
rows_after (Rename chosen) schema rows = map (picked chosen) rows
rows_after (Relocate chosen) schema rows = map (picked chosen) rows
rows_after (GroupBy columns) schema rows = rows
rows_after Ungroup schema rows = rows
rows_after (DropNa columns) schema rows = filter (is_whole columns) rows
rows_after (ReplaceNa cells) schema rows = map (with_cells cells) rows
rows_after v schema rows = rows
