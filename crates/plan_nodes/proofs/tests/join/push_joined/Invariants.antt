use Rattle.std.proofs.Common.{◌≡◌, ◌++◌, map, take}
use Rattle.plan_nodes.proofs.tests.join.push_joined.Given as goal

abbrev pub invariant-loop-y : goal.invariant-loop-y
invariant-loop-y l = l.made ≡ l.initial.made ++ map (λ y. l.x ++ y) (take l.y-index l.matched)
