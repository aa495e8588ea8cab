use Rattle.std.proofs.Common.{◌≡◌, take}
use Rattle.column_batch.specs.Batches.{kinds_of}
use Rattle.plan_nodes.specs.Kinds.{missing_row}
use Rattle.hash_join.proofs.columns.missing_row.Given as goal

abbrev pub invariant-loop-field : goal.invariant-loop-field
invariant-loop-field l = l.row.items ≡ missing_row (kinds_of (take l._field-index l.fields))
