-- The law, as proved.
use Rattle.plan_machine.proofs.Kept.{fitting}
use Rattle.plan_machine.proofs.laws.tasks_fit.Goals as goal

pub returns : goal.returns
returns g c = fitting _
