use Rattle.std.proofs.Common.{◌≡◌, take}
use Rattle.plan_nodes.specs.Kinds.{joined_rows}
use Rattle.plan_nodes.specs.Examples.{by_first}
use Rattle.plan_nodes.proofs.tests.join.joined_rows.Given as goal

abbrev pub invariant-loop-x : goal.invariant-loop-x
invariant-loop-x l = l.made ≡ joined_rows by_first l.right l.built (take l.x-index l.rows)
