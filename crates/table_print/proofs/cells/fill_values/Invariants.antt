use Rattle.std.proofs.Common.{◌≡◌, take}
use Rattle.csv.specs.Records.{AllText, fields_of}
use Rattle.table_print.specs.Cells.{written_row}
use Rattle.table_print.proofs.cells.fill_values.Given as goal

abbrev pub invariant-loop-value : goal.invariant-loop-value
invariant-loop-value l = record { cells : fields_of l.line ≡ written_row (take l.value-index l.row); text : AllText (fields_of l.line) }
