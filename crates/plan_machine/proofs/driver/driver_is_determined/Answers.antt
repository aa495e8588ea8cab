-- In each state there is at most one entry for the driver, and none where the run has ended.
use Rattle.plan_machine.specs.State.{opening}
use Rattle.plan_machine.proofs.DriverOne.{driven_same}
use Rattle.plan_machine.proofs.driver.driver_is_determined.Goals as goal

pub returns : goal.returns
returns g c P es es' a b = driven_same P es es' (opening P) a.driven a.ended b.driven b.ended
