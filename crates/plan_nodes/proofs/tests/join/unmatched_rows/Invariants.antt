use Rattle.std.proofs.Common.{◌≡◌, take}
use Rattle.plan_nodes.specs.Kinds.{unmatched_rows}
use Rattle.plan_nodes.specs.Examples.{by_first}
use Rattle.plan_nodes.proofs.tests.join.unmatched_rows.Given as goal

abbrev pub invariant-loop-y : goal.invariant-loop-y
invariant-loop-y l = l.made ≡ unmatched_rows by_first l.left (take l.y-index l.built) l.streamed
