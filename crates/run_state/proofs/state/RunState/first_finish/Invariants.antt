use Rattle.std.proofs.Common.{ℕ, ◌≤◌}
use Rattle.plan_machine.specs.declared.entry.Entry.TheVariants.{Finish}
use Rattle.plan_machine.specs.Enabled.{Enabled}
use Rattle.plan_store.specs.Told.{plan_of, state_of}
use Rattle.run_state.proofs.state.RunState.first_finish.Given as goal

abbrev pub invariant-loop-place : goal.invariant-loop-place
invariant-loop-place g l = (j : ℕ) → j ≤ l.place → Enabled (plan_of l.self.given) (state_of l.self) (Finish j) → ⊥
