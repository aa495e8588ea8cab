use Rattle.std.proofs.Common.{◌≡◌, length, take}
use Rattle.stream_ops.specs.Columns.{rows_where}
use Rattle.stream_ops.proofs.filter.kept_rows.Given as goal

abbrev pub invariant-loop-row : goal.invariant-loop-row
invariant-loop-row l = l.made ≡ rows_where (take (length l.yielded) l.rows) (take (length l.yielded) l.values)
