-- What there must be for a task to begin, and what is left once its batch was taken.
use Rattle.std.specs.Prelude.{◌≡◌, ◌∷◌, ℕ, ◌+◌, ◌-◌, ◌<◌, ◌≤◌, ◌^◌, Bool, true, false, List, length, Option, slice_index_or}
use Rattle.std.specs.VecDeque.{deque_capacity}
use Rattle.backpressure.specs.Edges.{with_one_less}
use Rattle.plan_machine.specs.declared.entry.Job.{Job}
use Rattle.plan_machine.specs.declared.entry.Job.TheVariants.{Emit, Fold, Seal, Stream, Close, Tail}
use Rattle.task_work.specs.declared.work.Waiting.{Waiting}
use Rattle.plan_store.specs.declared.queue.Queue.{Queue}
use Rattle.plan_store.specs.declared.stage.Stage.{Stage}
use Rattle.plan_store.specs.declared.stage.Flight.{Flight}

-- an Emit and a Tail give a node's next batch
abbrev pub gives_next : Job → Bool
gives_next Emit = true
gives_next Fold = false
gives_next Seal = false
gives_next Stream = false
gives_next Close = false
gives_next Tail = true

-- the number of the batch that a node gives next, once the job is claimed
abbrev pub next_by : Job → ℕ → ℕ
next_by Emit k = k + 1
next_by Fold k = k
next_by Seal k = k
next_by Stream k = k
next_by Close k = k
next_by Tail k = k + 1

-- with one task more in flight
abbrev pub with_task : Stage → Job → Stage
with_task st job = record st { next = next_by job st.next; busy = st.busy + 1 }

-- there is a seat for the worker's task, and its node counts it
pub record IsEntering (seats : List (Option Flight)) (stages : List Stage) (flying entries capacity : ℕ) (worker : ℕ) (f : Flight) : Type 0 where
  pub seat : (1 ≤ worker) × (worker ≤ length seats)
  pub node : (1 ≤ f.node) × (f.node ≤ length stages)
  pub busy : (d : Stage) → (slice_index_or stages (f.node - 1) d).busy < 2 ^ 32 - 1
  pub next : (d : Stage) → gives_next f.job ≡ true → (slice_index_or stages (f.node - 1) d).next < (slice_index_or stages (f.node - 1) d).count
  pub room : entries < capacity
  pub flies : flying < 2 ^ 64 - 1

-- the queue without its first batch
pub record IsShortened (q : Queue) (first : Waiting) (q' : Queue) : Type 0 where
  pub items : q.waiting.items ≡ first ∷ q'.waiting.items
  pub room : deque_capacity q'.waiting ≡ deque_capacity q.waiting
  pub edge : q'.edge ≡ with_one_less q.edge
