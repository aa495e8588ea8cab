-- By induction along the history.
use Rattle.plan_machine.proofs.DriverHistory.{grows}
use Rattle.plan_machine.proofs.driver.history_grows.Goals as goal

pub returns : goal.returns
returns g c P es x s = grows P es x s
