use Rattle.std.proofs.Common.{length}
use Rattle.plan_compile.proofs.steps.+all_true.Given as goal

abbrev pub decreases-all_true : goal.decreases-all_true
decreases-all_true l = length l.conditions
