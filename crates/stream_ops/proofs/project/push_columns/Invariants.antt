use Rattle.std.proofs.Common.{◌≡◌, take}
use Rattle.plan_nodes.specs.Kinds.{projected}
use Rattle.stream_ops.proofs.project.push_columns.Given as goal

abbrev pub invariant-loop-e : goal.invariant-loop-e
invariant-loop-e l = l.rows ≡ projected (take l.e-index l.list) l.batch.rows
