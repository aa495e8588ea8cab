use Rattle.std.proofs.Common.{sym, subst}
use Rattle.plan_store.specs.Told.{given_by}
use Rattle.worker_run.specs.Driving.{IsDriving}
use Rattle.worker_run.proofs.Driving.{begun}
use Rattle.worker_run.proofs.alone.run_alone.Goals as goal

pub run-requires-clause-driving : goal.run-requires-clause-driving
run-requires-clause-driving g c κs within = subst (λ t. IsDriving t) (sym c.in_ok-state.ensures) (begun (given_by c.args.plan.now.nodes c.args.sources c.args.setting))
