-- The law, as proved.
use Rattle.plan_machine.proofs.Meanings.{meanings}
use Rattle.plan_machine.proofs.laws.meaning_is_whole.Goals as goal

pub returns : goal.returns
returns g c = meanings _
