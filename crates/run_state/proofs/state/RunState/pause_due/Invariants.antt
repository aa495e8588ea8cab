use Rattle.std.proofs.Common.{ℕ, ◌<◌}
use Rattle.plan_machine.specs.Enabled.{CanPause}
use Rattle.plan_store.specs.Told.{plan_of, state_of}
use Rattle.run_state.proofs.state.RunState.pause_due.Given as goal

abbrev pub invariant-loop-edge : goal.invariant-loop-edge
invariant-loop-edge g l = (e : ℕ) → e < l.edge → CanPause (plan_of l.self.given) (state_of l.self) e → ⊥
