use Rattle.std.proofs.Common.{◌≡◌, ◌++◌, take}
use Rattle.plan_nodes.proofs.tests.join.FirstJoin.columns.Given as goal

abbrev pub invariant-loop-kind : goal.invariant-loop-kind
invariant-loop-kind l = l.kinds ≡ l.initial.kinds ++ take l.kind-index l.right
