use Rattle.std.proofs.Common.{◌≡◌, ◌++◌, take}
use Rattle.column_batch.specs.Batches.{kinds_of}
use Rattle.hash_join.proofs.columns.push_kinds.Given as goal

abbrev pub invariant-loop-field : goal.invariant-loop-field
invariant-loop-field l = l.kinds.items ≡ l.initial.kinds.items ++ kinds_of (take l.field-index l.fields)
