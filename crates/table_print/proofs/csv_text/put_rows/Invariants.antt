use Rattle.std.proofs.Common.{ℕ, List, ◌++◌, take}
use Rattle.std.specs.List.{flat_map}
use Rattle.table_print.specs.Cells.{written_row}
use Rattle.table_print.specs.CsvText.{csv_line}
use Rattle.table_print.specs.Writers.{HasWritten}
use Rattle.table_print.proofs.csv_text.put_rows.Given as goal

abbrev pub invariant-loop-row : goal.invariant-loop-row
invariant-loop-row l =
    (text : List ℕ) → HasWritten l.fn.writer text → HasWritten l.writer (text ++ flat_map (λ row. csv_line (written_row row)) (take l.row-index l.rows))
