use Rattle.std.proofs.Common.{◌≡◌, take}
use Rattle.plan_nodes.proofs.tests.gather.some_rows.Given as goal

abbrev pub invariant-loop-row : goal.invariant-loop-row
invariant-loop-row l = l.made ≡ take l.row-index l.part
