use Rattle.std.proofs.Common.{ℕ, ◌<◌}
use Rattle.plan_machine.specs.declared.entry.Entry.TheVariants.{Resume}
use Rattle.plan_machine.specs.Enabled.{Enabled}
use Rattle.plan_store.specs.Told.{plan_of, state_of}
use Rattle.run_state.proofs.state.RunState.first_resume.Given as goal

abbrev pub invariant-loop-edge : goal.invariant-loop-edge
invariant-loop-edge g l = (j : ℕ) → j < l.edge → Enabled (plan_of l.self.given) (state_of l.self) (Resume j) → ⊥
