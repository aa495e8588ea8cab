use Rattle.std.proofs.Common.{◌≡◌, length, take}
use Rattle.stream_ops.specs.Columns.{lengthened}
use Rattle.stream_ops.proofs.project.push_column.Given as goal

abbrev pub invariant-loop-place : goal.invariant-loop-place
invariant-loop-place l = l.rows ≡ lengthened l.initial.rows (take (length l.yielded) l.fn.column)
