use Rattle.std.proofs.Common.{◌≡◌, [], take}
use Rattle.plan_nodes.specs.Kinds.{projected}
use Rattle.stream_ops.proofs.project.empty_rows.Given as goal

abbrev pub invariant-loop-row : goal.invariant-loop-row
invariant-loop-row l = l.made.items ≡ projected [] (take l._row-index l.rows)
