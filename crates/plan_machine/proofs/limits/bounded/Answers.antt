-- The bound holds in the opening state, and each entry keeps it.
use Rattle.plan_machine.proofs.BoundLoad.{bounded_history}
use Rattle.plan_machine.proofs.limits.bounded.Goals as goal

pub returns : goal.returns
returns g c P well es legal e edge = bounded_history P es legal e edge
