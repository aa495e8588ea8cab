-- What the calls on stages leave.
use Rattle.plan_machine.specs.declared.entry.Phase.TheVariants.{Done}
use Rattle.plan_store.specs.declared.stage.Stage.{Stage}

abbrev pub ended : Stage → Stage
ended st = record st { phase = Done }
