-- It goes on, but no longer than a history can.
use Rattle.plan_machine.specs.Budget.{most}
use Rattle.plan_machine.proofs.DriverEnds.{ends}
use Rattle.plan_machine.proofs.Fewer.{no_more}
use Rattle.plan_machine.proofs.driver.driver_ends.Goals as goal

pub returns : goal.returns
returns g c P lawful well at rows batches budget =
    ends P well at (most P batches) (λ es legal. no_more _ P lawful well rows batches budget es legal)
