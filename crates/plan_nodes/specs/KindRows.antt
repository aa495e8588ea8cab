-- What the kinds of nodes give that gather their one input, or that give several rows for a row, on whole lists of rows.
use Rattle.std.specs.Prelude.{ℕ, Bool, true, false, List, [], ◌∷◌, ◌++◌, map, length, take, drop, slice_index_or}
use Rattle.std.specs.List.{flat_map, range_with_len}
use Rattle.std.specs.declared.cmp.Ordering.{Ordering}
use Rattle.std.specs.declared.cmp.Ordering.TheVariants.{Equal}
use Rattle.std.specs.Ordering.{on, then_cmp, flip_args, bool_cmp}
use Rattle.scalar_value.specs.declared.value.Value.{Value}
use Rattle.scalar_value.specs.declared.value.Value.TheVariants.{Missing, Chr}
use Rattle.scalar_value.specs.declared.value.ColType.TheVariants as type
use Rattle.scalar_value.specs.Order.{value_cmp}
use Rattle.scalar_value.specs.Truths.{is_missing}
use Rattle.na_expr.specs.Evaluation.{val}
use Rattle.row_table.specs.declared.field.Field.{Field}
use Rattle.row_table.specs.Keys.{key_of, keys, rows_with}
use Rattle.row_table.specs.Sorting.{sorted_by, sorted_rows}
use Rattle.agg_rules.specs.Aggregates.{agg}
use Rattle.agg_rules.specs.Windows.{win}
use Rattle.plan_nodes.specs.declared.options.LongerSpec.{LongerSpec}
use Rattle.plan_nodes.specs.declared.options.AggSpec.{AggSpec}
use Rattle.plan_nodes.specs.declared.options.SortKey.{SortKey}
use Rattle.plan_nodes.specs.declared.options.WindowCall.{WindowCall}
use Rattle.plan_nodes.specs.declared.options.WindowSpec.{WindowSpec}

-- the row's value in a column
abbrev pub cell : ℕ → List Value → Value
cell column row = slice_index_or row column Missing

-- ---- longer

-- a column's name
abbrev pub name_at : List Field → ℕ → List ℕ
name_at schema column = (slice_index_or schema column (record { name = []; kind = type.Lgl })).name

-- for each row, for each chosen column in the order of the choice, a row of the kept columns, the column's name and its value
abbrev pub longer_rows : List Field → LongerSpec → List (List Value) → List (List Value)
longer_rows schema s rows = flat_map (λ row. map (λ column. key_of s.kept row ++ Chr (name_at schema column) ∷ cell column row ∷ []) s.chosen) rows

-- ---- aggregate

-- one row for each key: the key, and the value of each call on the rows that have it
abbrev pub group_row : AggSpec → List (List Value) → List Value → List Value
group_row s rows key = key ++ map (λ call. agg call (map (cell call.arg) (rows_with s.keys key rows))) s.calls

-- the keys ascending; without keys there is one row, also where there are no rows
abbrev pub aggregated : AggSpec → List (List Value) → List (List Value)
aggregated s rows = map (group_row s rows) (sorted_rows (keys s.keys rows))

-- ---- order_by

-- values ascending or descending, missing ones last in both
abbrev pub cmp_by : Bool → Value → Value → Ordering
cmp_by false = value_cmp
cmp_by true = then_cmp (on is_missing bool_cmp) (flip_args value_cmp)

-- rows by the first key, then by the next, and so on
abbrev pub key_order : List SortKey → List Value → List Value → Ordering
key_order [] = λ x y. Equal
key_order (k ∷ ks) = then_cmp (on (cell k.column) (cmp_by k.descending)) (key_order ks)

-- the rows sorted by the keys; rows that tie keep their places
abbrev pub ordered_rows : List SortKey → List (List Value) → List (List Value)
ordered_rows ks rows = sorted_by (key_order ks) rows

-- ---- fetch

-- so many rows behind the first `offset`, as far as they are there
abbrev pub fetched : ℕ → ℕ → List (List Value) → List (List Value)
fetched offset count rows = take count (drop offset rows)

-- ---- window

-- The value of a call on row i: that of the window call over the rows of its group, in their order, at the row's place among
-- them.
abbrev pub window_value : List ℕ → List (List Value) → ℕ → WindowCall → Value
window_value columns rows i call =
    let key = key_of columns (slice_index_or rows i []) in
    win call.kind call.shift call.descending (map (λ row. val row call.arg) (rows_with columns key rows)) (length (rows_with columns key (take i rows)))

-- each row with the values of the calls behind it
abbrev pub windowed : WindowSpec → List (List Value) → List (List Value)
windowed s rows = map (λ i. slice_index_or rows i [] ++ map (window_value s.keys rows i) s.calls) (range_with_len 0 (length rows))
