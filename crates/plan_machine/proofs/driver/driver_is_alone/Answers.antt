-- Only worker 1 claims, and no entry is a Fail.
use Rattle.plan_machine.specs.State.{opening}
use Rattle.plan_machine.proofs.DriverHistory.{driven_alone, opening_alone}
use Rattle.plan_machine.proofs.driver.driver_is_alone.Goals as goal

pub returns : goal.returns
returns g c P es d = let a = driven_alone P es (opening P) d (opening_alone P) in (a.sound, a.others)
