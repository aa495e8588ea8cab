use Rattle.std.proofs.Common.{◌≡◌, take}
use Rattle.column_batch.specs.Batches.{kinds_of}
use Rattle.column_batch.proofs.batch.copy_kinds.Given as goal

abbrev pub invariant-loop-field : goal.invariant-loop-field
invariant-loop-field l = l.kinds ≡ kinds_of (take l.field-index l.field-items)
