-- Down from the sink there is always a node that has work.
use Rattle.plan_machine.proofs.StuckWalk.{never_stuck_history}
use Rattle.plan_machine.proofs.limits.never_stuck.Goals as goal

pub returns : goal.returns
returns g c P well es legal sound live idle quiet w at = never_stuck_history P well es legal sound live idle quiet w at
