use Rattle.std.proofs.Common.{◌≡◌}
use Rattle.csv.specs.Records.{fields_of}
use Rattle.table_print.proofs.Columns.{widened_front}
use Rattle.table_print.proofs.column.widen.Given as goal

abbrev pub invariant-loop-place : goal.invariant-loop-place
invariant-loop-place l = l.columns ≡ widened_front l.place l.fn.columns (fields_of l.line)
