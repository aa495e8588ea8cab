-- The state of a run.
use Rattle.std.specs.Prelude.{◌≡◌, ℕ, Bool, false, cond, nat_eq, List, [], ◌∷◌, Option, Some, None}
use Rattle.plan_machine.specs.declared.entry.Phase.{Phase}
use Rattle.plan_machine.specs.declared.entry.Phase.TheVariants.{Done}
use Rattle.plan_machine.specs.declared.entry.Job.{Job}
use Rattle.plan_machine.specs.Lists.{gather}
use Rattle.plan_machine.specs.Batch.{Batch, rows_of}
use Rattle.plan_machine.specs.Plan.{Plan, IsWorker}

-- A task in flight: its node, its job, the number of the batch that an Emit or a Tail gives or else its
-- place, the batch that it took, the list or lists of batches that it took from the node, and the node's
-- built rows and streamed batches as they were at its claim.
pub record Task (R : Type 0) : Type 0 where
  pub node : ℕ
  pub job : Job
  pub number : ℕ
  pub batch : Batch R
  pub took : List (Batch R)
  pub built : List R
  pub streamed : List (Batch R)

pub record State (R : Type 0) : Type 0 where
  -- of each node: its phase, the batches that each worker has folded or streamed there, the rows that it
  -- built of all that it gathered, the batches that it streamed once that input has ended, the number of
  -- the batch that it gives next, and the batches that were folded (a fetch looks at their indexes)
  pub phase : ℕ → Phase
  pub locals : ℕ → ℕ → List (Batch R)
  pub built : ℕ → List R
  pub streamed : ℕ → List (Batch R)
  pub next : ℕ → ℕ
  pub folded : ℕ → List (Batch R)
  -- of each edge: the waiting batches, oldest first, and whether it is paused
  pub waiting : ℕ → List (Batch R)
  pub paused : ℕ → Bool
  -- of each worker: its task in flight, or none
  pub tasks : ℕ → Option (Task R)
  -- whether a Fail came
  pub failed : Bool

module _ {R : Type 0} (P : Plan R) where
  abbrev pub on_node : ℕ → Option (Task R) → List (Task R)
  on_node n None = []
  on_node n (Some t) = cond (nat_eq t.node n) (t ∷ []) []

  -- the tasks in flight at a node, by worker
  abbrev pub tasks_at : State R → ℕ → List (Task R)
  tasks_at s n = gather P.workers (λ w. on_node n (s.tasks w))

  -- no task of the node is in flight
  abbrev pub IsIdle : State R → ℕ → Type 0
  IsIdle s n = tasks_at s n ≡ []

  -- an edge is ended where its producer is Done and nothing waits on it
  abbrev pub IsEndedEdge : State R → ℕ → Type 0
  IsEndedEdge s e = (s.phase e ≡ Done) × (s.waiting e ≡ [])

  -- the rows that a node gives at its end
  abbrev pub tail_rows : State R → ℕ → List R
  tail_rows s n = (P.node n).rest (s.built n) (rows_of (s.streamed n))

  -- no task at all is in flight
  abbrev pub NothingInFlight : State R → Type 0
  NothingInFlight s = (w : ℕ) → IsWorker P w → s.tasks w ≡ None

  -- the state in which each run begins
  abbrev pub opening : State R
  opening =
      record {
        phase = λ n. (P.node n).start;
        locals = λ _ _. [];
        built = λ _. [];
        streamed = λ _. [];
        next = λ _. 0;
        folded = λ _. [];
        waiting = λ _. [];
        paused = λ _. false;
        tasks = λ _. None;
        failed = false;
      }
