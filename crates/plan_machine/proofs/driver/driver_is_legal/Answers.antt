-- Each entry of the driver is enabled.
use Rattle.plan_machine.specs.State.{opening}
use Rattle.plan_machine.proofs.DriverHistory.{driven_legal}
use Rattle.plan_machine.proofs.driver.driver_is_legal.Goals as goal

pub returns : goal.returns
returns g c P es d = driven_legal P es (opening P) d
