-- When two tables are the same, and the table that is shown of one.
use Rattle.std.specs.Prelude.{◌≡◌, ℕ, Bool, List}
use Rattle.std.specs.List.{count_by}
use Rattle.std.specs.Cmp.Lexicographic.{pointwise}
use Rattle.scalar_value.specs.declared.value.Value.{Value}
use Rattle.scalar_value.specs.Order.{value_same}
use Rattle.row_table.specs.declared.table.Mark.{Mark}
use Rattle.row_table.specs.declared.table.Mark.TheVariants.{Kept, Unordered}
use Rattle.row_table.specs.Tables.{TableValue}
use Rattle.row_table.specs.Sorting.{sorted_rows}

-- whether two rows, or two keys, have equal values; a missing value equals a missing one
abbrev pub row_same : List Value → List Value → Bool
row_same = pointwise value_same

-- how often the row stands among the rows
abbrev pub times : List Value → List (List Value) → ℕ
times row rows = count_by (λ other. row_same row other) rows

-- each row stands in both equally often
abbrev pub IsAsOften : List (List Value) → List (List Value) → Type 0
IsAsOften xs ys = (row : List Value) → times row xs ≡ times row ys

-- the same rows: in the same order where the order is kept, else each equally often
abbrev pub SameRows : Mark → List (List Value) → List (List Value) → Type 0
SameRows Kept xs ys = xs ≡ ys
SameRows Unordered xs ys = IsAsOften xs ys

pub record SameTables (x y : TableValue) : Type 0 where
  pub schema : x.schema ≡ y.schema
  pub groups : x.groups ≡ y.groups
  pub mark : x.mark ≡ y.mark
  pub rows : SameRows x.mark x.rows y.rows

-- the rows as they are where their order is kept, else sorted
abbrev pub shown_rows : Mark → List (List Value) → List (List Value)
shown_rows Kept rows = rows
shown_rows Unordered rows = sorted_rows rows

-- the table that is shown
abbrev pub shown : TableValue → TableValue
shown t = record t { rows = shown_rows t.mark t.rows }
