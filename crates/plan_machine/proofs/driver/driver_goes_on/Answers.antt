-- It delivers, or does the upkeep that is due, or claims.
use Rattle.plan_machine.proofs.DriverGoes.{goes_on}
use Rattle.plan_machine.proofs.driver.driver_goes_on.Goals as goal

pub returns : goal.returns
returns g c P well at es d on = goes_on P well at es d on
