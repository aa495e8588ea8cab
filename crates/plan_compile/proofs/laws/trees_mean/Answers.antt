use Rattle.plan_compile.proofs.Trees.{trees_mean}
use Rattle.plan_compile.proofs.laws.trees_mean.Goals as goal

pub returns : goal.returns
returns c = trees_mean c.verbs_are_steps.ensures c.verbs_keep_sameness.ensures.table
