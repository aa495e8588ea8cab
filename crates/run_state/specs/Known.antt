-- What is known of every state that a legal history reaches without a Fail, beside that its tasks fit.
use Rattle.std.specs.Prelude.{◌≡◌, ℕ, true, false, [], Some, ◌⊎◌}
use Rattle.plan_machine.specs.declared.entry.Phase.TheVariants.{Emitting, Folding, Streaming, Tailing}
use Rattle.plan_machine.specs.Plan.{Plan, IsNode, IsWorker, IsSource}
use Rattle.plan_machine.specs.State.{State, Task}
use Rattle.plan_machine.specs.After.{is_done}

-- A task in flight knows what its node has gathered and streamed as it still is, unless the node was stopped. A node has
-- gathered nothing while it is Folding, and streamed nothing before it is Tailing. Sources alone are Emitting, and nodes
-- that tail are Tailing.
pub record Known {R : Type 0} (P : Plan R) (s : State R) : Type 0 where
  pub tasks : (w : ℕ) (t : Task R) → IsWorker P w → s.tasks w ≡ Some t → is_done (s.phase t.node) ≡ false → (t.built ≡ s.built t.node) × (t.streamed ≡ s.streamed t.node)
  pub unbuilt : (n : ℕ) → IsNode P n → s.phase n ≡ Folding → s.built n ≡ []
  pub unstreamed : (n : ℕ) → IsNode P n → (s.phase n ≡ Folding) ⊎ (s.phase n ≡ Streaming) → s.streamed n ≡ []
  pub emitting : (n : ℕ) → IsNode P n → s.phase n ≡ Emitting → IsSource (P.node n)
  pub tailing : (n : ℕ) → IsNode P n → s.phase n ≡ Tailing → (P.node n).tails ≡ true
  -- a task of a number that is no worker's, or at a node of another phase, isn't there
  pub no_other : (w : ℕ) (t : Task R) → s.tasks w ≡ Some t → IsWorker P w
