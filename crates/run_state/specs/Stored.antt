-- What is stored of a plan's state, and what it stands for.
use Rattle.std.specs.Prelude.{◌≡◌, ℕ, suc, ◌+◌, ◌<◌, ◌≤◌, Bool, true, false, nat_eq, ◌&&◌, List, [], length, map, Option, Some, None, ◌⊎◌, slice_index_or}
use Rattle.std.specs.VecDeque.{deque_capacity}
use Rattle.scalar_value.specs.declared.value.Value.{Value}
use Rattle.scalar_value.specs.declared.value.ColType.{ColType}
use Rattle.plan_machine.specs.declared.entry.Phase.{Phase}
use Rattle.plan_machine.specs.declared.entry.Phase.TheVariants.{Emitting, Folding, Streaming, Tailing, Sealed, Done}
use Rattle.plan_machine.specs.declared.entry.Job.{Job}
use Rattle.plan_machine.specs.declared.entry.Job.TheVariants as job
use Rattle.plan_machine.specs.declared.entry.Entry.{Entry}
use Rattle.plan_machine.specs.Batch.{Batch, parts, rows_of}
use Rattle.plan_machine.specs.Lists.{sum_to}
use Rattle.plan_machine.specs.Plan.{Plan as MachinePlan, streams_from}
use Rattle.plan_machine.specs.Phases.{first_phase_of}
use Rattle.plan_machine.specs.State.{State, Task, tasks_at, opening}
use Rattle.plan_machine.specs.History.{IsHistory, state_after, peak}
use Rattle.plan_machine.specs.WellFormed.{Lawful, WellFormed}
use Rattle.plan_nodes.specs.Operators.{OpMeaning, item, first_of, folded_of}
use Rattle.plan_nodes.specs.Plans.{IsPlan}
use Rattle.task_work.specs.Sites.{Site}
use Rattle.task_work.specs.declared.work.Waiting.{Waiting}
use Rattle.task_work.specs.declared.work.Share.{Share}
use Rattle.task_work.specs.declared.work.Share.TheVariants as share
use Rattle.task_work.specs.Work as work
use Rattle.plan_store.specs.declared.queue.Queue.{Queue}
use Rattle.plan_store.specs.declared.stage.Stage.{Stage}
use Rattle.plan_store.specs.declared.stage.NodeInfo.{NodeInfo}
use Rattle.plan_store.specs.declared.stage.Flight.{Flight}
use Rattle.plan_store.specs.Told.{Given, plan_of, site_of}

-- R says of each number, counted from 1, what stands at its place
abbrev pub Held : {B : Type 0} → (ℕ → B → Type 0) → List B → Type 0
Held {B} R xs = (k : ℕ) (d : B) → k < length xs → R (suc k) (slice_index_or xs k d)

-- ---- nodes

-- what is stored of a node, beside what the plan says of it
pub record InfoIs (P : MachinePlan (List Value)) (v : Site) (n : ℕ) (i : NodeInfo) : Type 0 where
  pub source : i.source ≡ v.source
  pub shape : i.shape ≡ v.meaning.shape
  pub start : (P.node n).start ≡ first_phase_of i.source i.shape
  pub streams : (P.node n).streams ≡ i.shape.streams
  pub tails : (P.node n).tails ≡ i.shape.tails
  pub kept : (P.node n).kept ≡ i.kept
  pub kept_site : v.kept ≡ i.kept
  pub first : (P.node n).first ≡ i.first
  pub second : (P.node n).second ≡ i.second
  pub user : P.user n ≡ i.user

-- a node's phase, the number of the batch that it gives next, how many it gives where that is known, and its tasks
pub record StageIs (P : MachinePlan (List Value)) (n : ℕ) (phase : Phase) (next : ℕ) (built : List (List Value)) (streamed : List (Batch (List Value))) (at_node : ℕ) (st : Stage) : Type 0 where
  pub is_phase : st.phase ≡ phase
  pub is_next : st.next ≡ next
  pub emits : phase ≡ Emitting → st.count ≡ parts P.batch (P.node n).table
  pub ends : phase ≡ Tailing → st.count ≡ parts P.batch ((P.node n).rest built (rows_of streamed))
  pub busy : st.busy ≡ at_node

-- ---- edges

abbrev pub waiting_item : Waiting → Batch (List Value)
waiting_item w = item w.batch w.from

-- whether what waits on edge e may have given rows before: its user streams it, and cuts what it gives
abbrev pub goes_on : MachinePlan (List Value) → ℕ → Bool
goes_on P e = (P.node (P.user e)).streams && (nat_eq (streams_from P (P.user e)) e && (P.node (P.user e)).cuts)

pub record IsWaiting (columns : List ColType) (may_go_on : Bool) (w : Waiting) : Type 0 where
  pub columns_are : w.batch.kinds ≡ columns
  pub starts : (may_go_on ≡ true) ⊎ (w.from ≡ 0)

-- an edge's waiting batches, with their columns and with room for all that may come, and its counts
pub record QueueIs (columns : List ColType) (may_go_on : Bool) (places : ℕ) (waiting : List (Batch (List Value))) (paused : Bool) (most : ℕ) (q : Queue) : Type 0 where
  pub items : map waiting_item q.waiting.items ≡ waiting
  pub each : (k : ℕ) (d : Waiting) → k < length q.waiting.items → IsWaiting columns may_go_on (slice_index_or q.waiting.items k d)
  pub room : places ≤ deque_capacity q.waiting
  pub count : q.edge.waiting ≡ length waiting
  pub is_paused : q.edge.paused ≡ paused
  pub is_peak : q.edge.peak ≡ most

-- ---- tasks in flight

abbrev pub SeatIs : Option (Task (List Value)) → Option Flight → Type 0
SeatIs None None = Unit {0}
SeatIs None (Some f) = ⊥
SeatIs (Some t) None = ⊥
SeatIs (Some t) (Some f) = (f.node ≡ t.node) × (f.job ≡ t.job) × (f.number ≡ t.number)

abbrev pub in_flight : Option (Task (List Value)) → ℕ
in_flight None = 0
in_flight (Some t) = 1

-- how many tasks are in flight
abbrev pub flying_in : MachinePlan (List Value) → State (List Value) → ℕ
flying_in P s = sum_to P.workers (λ w. in_flight (s.tasks w))

abbrev pub takes_all : Job → Bool
takes_all job.Emit = false
takes_all job.Fold = false
takes_all job.Seal = true
takes_all job.Stream = false
takes_all job.Close = true
takes_all job.Tail = false

-- the shares of all workers at node n are away for a Seal or a Close of some worker
abbrev pub AllAway : (ℕ → Option (Task (List Value))) → ℕ → Type 0
AllAway tasks n = (w : ℕ) × (t : Task (List Value)) × (tasks w ≡ Some t) × (t.node ≡ n) × (takes_all t.job ≡ true)

-- what a share of worker w at node n is away for: a task of that worker there, or a Seal or a Close of any worker
abbrev pub Away : (ℕ → Option (Task (List Value))) → ℕ → ℕ → Type 0
Away tasks n w = ((t : Task (List Value)) × (tasks w ≡ Some t) × (t.node ≡ n)) ⊎ AllAway tasks n

-- ---- shares

module _ {O S L : Type 0}
    (meaning : O → OpMeaning)
    (local_is : OpMeaning → List ColType → L → List (Batch (List Value)) → Type 0)
    (shared_is : OpMeaning → List (List ColType) → S → List (List Value) → List (Batch (List Value)) → Type 0)
  where
    -- A share that stands at a node: a source's table; else the operator, what was gathered and streamed, and while the
    -- node takes batches, those that the worker took. Of a node that is Done only the sink's is looked at.
    abbrev pub PartStands : Site → Bool → Phase → List (Batch (List Value)) → List (List Value) → List (Batch (List Value)) → Share O S L → Type 0
    PartStands v last Emitting taken built streamed (share.Table t) = work.IsTable meaning local_is shared_is v t
    PartStands v last Emitting taken built streamed (share.Part p) = ⊥
    PartStands v last Folding taken built streamed (share.Table t) = ⊥
    PartStands v last Folding taken built streamed (share.Part p) = work.IsPart meaning local_is shared_is v (folded_of v.meaning v.inputs) taken built [] p
    PartStands v last Streaming taken built streamed (share.Table t) = ⊥
    PartStands v last Streaming taken built streamed (share.Part p) = work.IsPart meaning local_is shared_is v (first_of v.inputs) taken built [] p
    PartStands v last Tailing taken built streamed (share.Table t) = ⊥
    PartStands v last Tailing taken built streamed (share.Part p) = work.IsShared meaning local_is shared_is v built streamed p
    PartStands v last Sealed taken built streamed (share.Table t) = ⊥
    PartStands v last Sealed taken built streamed (share.Part p) = work.IsShared meaning local_is shared_is v built [] p
    PartStands v true Done taken built streamed (share.Table t) = ⊥
    PartStands v true Done taken built streamed (share.Part p) = work.IsShared meaning local_is shared_is v built [] p
    PartStands v false Done taken built streamed p = Unit {0}

    abbrev pub SlotStands : Site → Bool → Phase → List (Batch (List Value)) → List (List Value) → List (Batch (List Value)) → Option (Share O S L) → Type 0
    SlotStands v last phase taken built streamed None = Unit {0}
    SlotStands v last phase taken built streamed (Some p) = PartStands v last phase taken built streamed p

    -- whether a node's shares are looked at
    abbrev pub is_live : Bool → Phase → Bool
    is_live last Emitting = true
    is_live last Folding = true
    is_live last Streaming = true
    is_live last Tailing = true
    is_live last Sealed = true
    is_live last Done = last

    -- worker w's share of node n: where it stands, and that it is there unless it is away
    pub record SlotIs (v : Site) (last : Bool) (failed : Bool) (phase : Phase) (taken : List (Batch (List Value))) (built : List (List Value)) (streamed : List (Batch (List Value))) (away : Type 0) (slot : Option (Share O S L)) : Type 0 where
      pub stands : SlotStands v last phase taken built streamed slot
      pub here : failed ≡ false → is_live last phase ≡ true → slot ≡ None → away

    -- the shares of all workers at a node, which are one for each, or none at all while a Seal or a Close has them
    pub record RowIs (v : Site) (last : Bool) (failed : Bool) (phase : Phase) (locals : ℕ → List (Batch (List Value))) (built : List (List Value)) (streamed : List (Batch (List Value))) (tasks : ℕ → Option (Task (List Value))) (n : ℕ) (row : List (Option (Share O S L))) : Type 0 where
      pub size : (length row ≡ v.workers) ⊎ ((row ≡ []) × (failed ≡ false → is_live last phase ≡ true → AllAway tasks n))
      pub slots : (k : ℕ) → k < v.workers → SlotIs v last failed phase (locals (suc k)) built streamed (Away tasks n (suc k)) (slice_index_or row k None)

    -- ---- the whole

    -- What is stored, beside the history, stands for the state after it.
    pub record Stored (g : Given) (s : State (List Value)) (most : ℕ → ℕ) (infos : List NodeInfo) (stages : List Stage) (queues : List Queue) (rows : List (List (Option (Share O S L)))) (seats : List (Option Flight)) (failed : Bool) (flying : ℕ) : Type 0 where
      pub all_infos : length infos ≡ (plan_of g).sink
      pub all_stages : length stages ≡ (plan_of g).sink
      pub all_queues : length queues ≡ (plan_of g).sink
      pub all_rows : length rows ≡ (plan_of g).sink
      pub all_seats : length seats ≡ (plan_of g).workers
      pub infos_are : Held (λ n i. InfoIs (plan_of g) (site_of g n) n i) infos
      pub stages_are : Held (λ n st. StageIs (plan_of g) n (s.phase n) (s.next n) (s.built n) (s.streamed n) (length (tasks_at (plan_of g) s n)) st) stages
      pub queues_are : Held (λ n q. QueueIs (site_of g n).columns (goes_on (plan_of g) n) ((plan_of g).pause + (plan_of g).workers) (s.waiting n) (s.paused n) (most n) q) queues
      pub rows_are : Held (λ n row. RowIs (site_of g n) (nat_eq n (plan_of g).sink) s.failed (s.phase n) (s.locals n) (s.built n) (s.streamed n) s.tasks n row) rows
      pub seats_are : Held (λ w seat. SeatIs (s.tasks w) seat) seats
      pub failed_is : failed ≡ s.failed
      pub flying_is : flying ≡ sum_to (plan_of g).workers (λ w. in_flight (s.tasks w))

    -- the sizes of a run, so that its counts are numbers of the machine
    pub record Bounding (g : Given) : Type 0 where
      pub workers : (1 ≤ (plan_of g).workers) × ((plan_of g).workers ≤ 64)
      pub pause : (plan_of g).pause ≤ 1024
      pub batch : 1 ≤ (plan_of g).batch
      pub nodes : (plan_of g).sink ≤ 256

    pub record Stands (g : Given) (history : List Entry) (infos : List NodeInfo) (stages : List Stage) (queues : List Queue) (rows : List (List (Option (Share O S L)))) (seats : List (Option Flight)) (failed : Bool) (flying : ℕ) (room capacity : ℕ) : Type 0 where
      pub planned : IsPlan g.nodes
      pub well : WellFormed (plan_of g)
      pub lawful : Lawful (plan_of g)
      pub sizes : Bounding g
      pub legal : IsHistory (plan_of g) history
      pub stored : Stored g (state_after (plan_of g) history) (λ e. peak (plan_of g) e history (opening (plan_of g))) infos stages queues rows seats failed flying
      pub fits : length history + flying + room ≤ capacity
