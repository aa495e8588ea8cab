use Rattle.std.proofs.Common.{◌≡◌, take}
use Rattle.plan_nodes.specs.Kinds.{missing_row}
use Rattle.plan_nodes.proofs.tests.join.missing_row.Given as goal

abbrev pub invariant-loop-kind : goal.invariant-loop-kind
invariant-loop-kind l = l.row ≡ missing_row (take l.kind-index l.kinds)
