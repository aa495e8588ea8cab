use Rattle.std.proofs.Common.{ℕ, ◌≤◌}
use Rattle.plan_machine.specs.Plan.{IsNode}
use Rattle.plan_store.specs.Told.{plan_of, state_of}
use Rattle.run_state.specs.Choosing.{NoJob}
use Rattle.run_state.proofs.state.RunState.first_work.Given as goal

abbrev pub invariant-loop-place : goal.invariant-loop-place
invariant-loop-place g l = (m : ℕ) → IsNode (plan_of l.self.given) m → m ≤ l.place → NoJob (plan_of l.self.given) (state_of l.self) m
