use Rattle.std.proofs.Common.{◌≡◌, map, take}
use Rattle.table_print.specs.Widths.{narrow}
use Rattle.table_print.proofs.column.narrow_columns.Given as goal

abbrev pub invariant-loop-field : goal.invariant-loop-field
invariant-loop-field l = l.columns.items ≡ map narrow (take l.field-index l.fields)
