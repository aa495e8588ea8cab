use Rattle.std.proofs.Common.{◌≡◌, take}
use Rattle.column_batch.specs.Batches.{rows_at}
use Rattle.column_batch.proofs.batch.copy_rows_at.Given as goal

abbrev pub invariant-loop-place : goal.invariant-loop-place
invariant-loop-place l = l.made ≡ rows_at l.rows (take l.place-index l.places)
