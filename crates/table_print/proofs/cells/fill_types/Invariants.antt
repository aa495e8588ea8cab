use Rattle.std.proofs.Common.{◌≡◌, map, take}
use Rattle.csv.specs.Records.{fields_of}
use Rattle.table_print.specs.Cells.{shown_type}
use Rattle.table_print.proofs.cells.fill_types.Given as goal

abbrev pub invariant-loop-field : goal.invariant-loop-field
invariant-loop-field l = fields_of l.line ≡ map shown_type (take l.field-index l.fields)
