use Rattle.plan_compile.proofs.Trees.{plans_mean}
use Rattle.plan_compile.proofs.laws.plans_mean.Goals as goal

pub returns : goal.returns
returns c = plans_mean c.trees_mean.ensures c.chains_are_plans.ensures c.chains_mean.ensures
