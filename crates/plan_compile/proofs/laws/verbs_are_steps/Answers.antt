use Rattle.plan_compile.proofs.Verbs.{verbs_are_steps}
use Rattle.plan_compile.proofs.laws.verbs_are_steps.Goals as goal

pub returns : goal.returns
returns c = verbs_are_steps
