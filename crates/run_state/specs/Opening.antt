-- What a run answers.
use Rattle.std.specs.Prelude.{◌≡◌, ℕ, zero, suc, ◌+◌, ◌-◌, ◌≤◌, List, [], ◌∷◌, ◌++◌}
use Rattle.scalar_value.specs.declared.value.Value.{Value}
use Rattle.plan_machine.specs.declared.entry.Entry.{Entry}
use Rattle.plan_machine.specs.Plan.{Plan as MachinePlan, IsEdge}
use Rattle.plan_machine.specs.State.{opening}
use Rattle.plan_machine.specs.History.{IsHistory, IsEnded, state_after, peak, result_rows}
use Rattle.plan_machine.specs.Meaning.{SameRows, meaning}
use Rattle.run_state.specs.declared.result.Finished.{Finished}
use Rattle.plan_store.specs.Told.{Given, plan_of}

-- the greatest number of batches that waited on each edge, in the order of the nodes
abbrev pub peaks_upto : MachinePlan (List Value) → List Entry → ℕ → List ℕ
peaks_upto P es zero = []
peaks_upto P es (suc e) = peaks_upto P es e ++ peak P (suc e) es (opening P) ∷ []

-- What a run that has ended gives: a history that ends, the rows that its sink has then, and the peak of each edge. The rows
-- are those of the plan's meaning: as a list where the sink keeps their order, else each as often. No edge ever held more
-- than the pause threshold and one batch for each worker.
pub record IsFinished (g : Given) (f : Finished) : Type 0 where
  pub legal : IsHistory (plan_of g) f.history
  pub ended : IsEnded (plan_of g) (state_after (plan_of g) f.history)
  pub result : f.rows ≡ result_rows (plan_of g) (state_after (plan_of g) f.history)
  pub same : SameRows ((plan_of g).node (plan_of g).sink).kept f.rows (meaning (plan_of g) (plan_of g).sink)
  pub within : (e : ℕ) → IsEdge (plan_of g) e → peak (plan_of g) e f.history (opening (plan_of g)) ≤ (plan_of g).pause + (plan_of g).workers
  pub most : f.peaks ≡ peaks_upto (plan_of g) f.history ((plan_of g).sink - 1)
