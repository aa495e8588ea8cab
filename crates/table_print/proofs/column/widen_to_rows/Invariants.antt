use Rattle.std.proofs.Common.{◌≡◌, map, take}
use Rattle.table_print.specs.Cells.{written_row}
use Rattle.table_print.specs.Widths.{widened_by}
use Rattle.table_print.proofs.column.widen_to_rows.Given as goal

abbrev pub invariant-loop-row : goal.invariant-loop-row
invariant-loop-row l = l.columns ≡ widened_by l.fn.columns (map written_row (take l.row-index l.rows))
