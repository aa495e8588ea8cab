use Rattle.std.proofs.Common.{◌≡◌, map, take}
use Rattle.csv.specs.Records.{fields_of}
use Rattle.table_print.specs.Cells.{name_of}
use Rattle.table_print.proofs.cells.fill_names.Given as goal

abbrev pub invariant-loop-field : goal.invariant-loop-field
invariant-loop-field l = fields_of l.line ≡ map name_of (take l.field-index l.fields)
