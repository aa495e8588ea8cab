-- The run is never stuck.
use Rattle.plan_machine.proofs.DriverGoes.{can_claim}
use Rattle.plan_machine.proofs.driver.driver_can_claim.Goals as goal

pub returns : goal.returns
returns g c P well at es d on free quiet = can_claim P well at es d on free quiet
