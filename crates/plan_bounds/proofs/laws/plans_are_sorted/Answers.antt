use Rattle.plan_bounds.proofs.NodeByNode.{plans-sorted}
use Rattle.plan_bounds.proofs.laws.plans_are_sorted.Goals as goal

pub returns : goal.returns
returns c = plans-sorted
