use Rattle.std.proofs.Common.{◌≡◌, map, take}
use Rattle.csv.specs.Records.{AllText, fields_of}
use Rattle.table_print.specs.Cells.{heading}
use Rattle.table_print.proofs.cells.fill_headings.Given as goal

abbrev pub invariant-loop-field : goal.invariant-loop-field
invariant-loop-field l = record { cells : fields_of l.line ≡ map heading (take l.field-index l.fields); text : AllText (fields_of l.line) }
