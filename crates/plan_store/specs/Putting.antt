-- What the lists of a run have room for, and what they are once something is put into them.
use Rattle.std.specs.Prelude.{◌≡◌, ℕ, ◌-◌, ◌<◌, ◌≤◌, ◌^◌, List, length, Option, slice_index_or}
use Rattle.std.specs.VecDeque.{deque_len, deque_capacity}
use Rattle.backpressure.specs.Edges.{with_one_more}
use Rattle.plan_machine.specs.declared.entry.Phase.{Phase}
use Rattle.task_work.specs.declared.work.Waiting.{Waiting}
use Rattle.plan_store.specs.declared.queue.Queue.{Queue}
use Rattle.plan_store.specs.declared.stage.Stage.{Stage}
use Rattle.plan_store.specs.declared.stage.Flight.{Flight}

-- with one task less in flight
abbrev pub less_busy : Stage → Stage
less_busy st = record st { busy = st.busy - 1 }

-- The queue holds these batches now, one more than it held, in as much room.
pub record IsGrown (old : Queue) (items : List Waiting) (q : Queue) : Type 0 where
  pub items_are : q.waiting.items ≡ items
  pub room : deque_capacity q.waiting ≡ deque_capacity old.waiting
  pub edge : q.edge ≡ with_one_more old.edge

-- what there is of a task that departs: its worker's seat, its node's stage and count, and the place of its delivery
pub record IsDeparting (seats : List (Option Flight)) (stages : List Stage) (flying entries capacity worker node : ℕ) : Type 0 where
  pub workers : 1 ≤ worker
  pub nodes : 1 ≤ node
  pub seat : worker - 1 < length seats
  pub place : node - 1 < length stages
  pub busy : (d : Stage) → 0 < (slice_index_or stages (node - 1) d).busy
  pub flies : 0 < flying
  pub room : entries < capacity

-- the node's row of shares has the worker's place
pub record HasSeat {A : Type 0} (rows : List (List A)) (worker node : ℕ) : Type 0 where
  pub workers : 1 ≤ worker
  pub nodes : 1 ≤ node
  pub place : node - 1 < length rows
  pub seat : (d : List A) → worker - 1 < length (slice_index_or rows (node - 1) d)

-- the edge's queue has room for a batch more
pub record HasRoom (queues : List Queue) (edge : ℕ) : Type 0 where
  pub edges : 1 ≤ edge
  pub place : edge - 1 < length queues
  pub room : (d : Queue) → deque_len (slice_index_or queues (edge - 1) d).waiting < deque_capacity (slice_index_or queues (edge - 1) d).waiting
  pub count : (d : Queue) → (slice_index_or queues (edge - 1) d).edge.waiting < 2 ^ 32 - 1

-- the list has the node's place
abbrev pub HasPlace : {A : Type 0} → List A → ℕ → Type 0
HasPlace xs node = (1 ≤ node) × (node - 1 < length xs)

-- a stage that begins a phase in which it gives so many batches
abbrev pub in_phase : Stage → Phase → ℕ → Stage
in_phase st phase count = record st { phase = phase; count = count }
