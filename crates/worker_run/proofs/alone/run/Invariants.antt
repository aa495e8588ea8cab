use Rattle.std.proofs.Common.{◌≡◌, ◌-◌, length}
use Rattle.plan_bounds.specs.Bounds.{most_entries}
use Rattle.worker_run.specs.Driving.{IsDriving}
use Rattle.worker_run.proofs.alone.run.Given as goal

abbrev pub invariant-loop-alloc : goal.invariant-loop-alloc
invariant-loop-alloc g l = record {
  given : l.state.given ≡ l.fn.state.given;
  driving : IsDriving l.state;
}

abbrev pub decreases-loop-alloc : goal.decreases-loop-alloc
decreases-loop-alloc g l = most_entries l.fn.state.given.nodes l.fn.state.given.tables l.fn.state.given.pace - length l.state.history
