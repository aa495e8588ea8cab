-- Upkeep is due, or worker 1 can claim.
use Rattle.plan_machine.proofs.DriverGoes.{some_entry}
use Rattle.plan_machine.proofs.driver.some_entry_enabled.Goals as goal

pub returns : goal.returns
returns g c P well at es legal on runs idle = some_entry P well at es legal on runs idle
