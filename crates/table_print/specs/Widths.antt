-- The columns as one line of cells after another is seen.
use Rattle.std.specs.Prelude.{ℕ, max, List, [], ◌∷◌}
use Rattle.scalar_fns.specs.Texts.{char_count}
use Rattle.row_table.specs.declared.field.Field.{Field}
use Rattle.table_print.specs.declared.column.Column.{Column}
use Rattle.table_print.specs.Aligned.{stands_right}

-- a column whose cells have not been seen
abbrev pub narrow : Field → Column
narrow f = record { right = stands_right f.kind; width = 0 }

-- as wide as these cells need
abbrev pub widened : List Column → List (List ℕ) → List Column
widened [] texts = []
widened (c ∷ cs) [] = c ∷ cs
widened (c ∷ cs) (text ∷ texts) = record c { width = max c.width (char_count text) } ∷ widened cs texts

-- the same for one line of cells after another
abbrev pub widened_by : List Column → List (List (List ℕ)) → List Column
widened_by columns [] = columns
widened_by columns (line ∷ lines) = widened_by (widened columns line) lines
