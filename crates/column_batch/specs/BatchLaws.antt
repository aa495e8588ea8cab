-- What holds of rows that fit the types of columns.
use Rattle.std.specs.Prelude.{◌≡◌, ℕ, ◌<◌, Bool, ◌&&◌, List, ◌++◌, take, drop, filter, All, length, IsTrue}
use Rattle.scalar_value.specs.declared.value.ColType.{ColType}
use Rattle.scalar_value.specs.declared.value.Value.{Value}
use Rattle.row_table.specs.declared.field.Field.{Field}
use Rattle.row_table.specs.Tables.{fit_rows}
use Rattle.column_batch.specs.Batches.{kinds_of, fit_kinds, rows_at}

-- rows fit columns exactly where they fit the types of the columns
abbrev pub FitsByKinds : Type 0
FitsByKinds = (schema : List Field) (rows : List (List Value)) → fit_rows schema rows ≡ fit_kinds (kinds_of schema) rows

-- two lists of rows, one behind the other, fit exactly where both do
abbrev pub FitsJoined : Type 0
FitsJoined = (kinds : List ColType) (xs ys : List (List Value)) → fit_kinds kinds (xs ++ ys) ≡ fit_kinds kinds xs && fit_kinds kinds ys

abbrev pub FitsTaken : Type 0
FitsTaken = (kinds : List ColType) (count : ℕ) (rows : List (List Value)) → IsTrue (fit_kinds kinds rows) → IsTrue (fit_kinds kinds (take count rows))

abbrev pub FitsDropped : Type 0
FitsDropped = (kinds : List ColType) (count : ℕ) (rows : List (List Value)) → IsTrue (fit_kinds kinds rows) → IsTrue (fit_kinds kinds (drop count rows))

abbrev pub FitsFiltered : Type 0
FitsFiltered = (kinds : List ColType) (test : List Value → Bool) (rows : List (List Value)) → IsTrue (fit_kinds kinds rows) → IsTrue (fit_kinds kinds (filter test rows))

-- rows at places of rows that fit do fit
abbrev pub FitsPlaced : Type 0
FitsPlaced = (kinds : List ColType) (rows : List (List Value)) (places : List ℕ) → IsTrue (fit_kinds kinds rows)
    → All (λ place. place < length rows) places → IsTrue (fit_kinds kinds (rows_at rows places))
