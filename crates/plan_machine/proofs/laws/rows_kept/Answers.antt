-- The law, as proved.
use Rattle.plan_machine.proofs.Kept.{kept}
use Rattle.plan_machine.proofs.laws.rows_kept.Goals as goal

pub returns : goal.returns
returns g c = kept _
