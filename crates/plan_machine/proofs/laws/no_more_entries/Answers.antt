-- The law, as proved.
use Rattle.plan_machine.proofs.Fewer.{no_more}
use Rattle.plan_machine.proofs.laws.no_more_entries.Goals as goal

pub returns : goal.returns
returns g c = no_more _
