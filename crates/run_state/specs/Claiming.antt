-- What a claim takes out of a plan's state.
use Rattle.std.specs.Prelude.{◌≡◌, ℕ, suc, ◌<◌, Bool, true, false, nat_eq, List, length, Option, Some, None, slice_index_or}
use Rattle.scalar_value.specs.declared.value.Value.{Value}
use Rattle.scalar_value.specs.declared.value.ColType.{ColType}
use Rattle.plan_machine.specs.declared.entry.Phase.{Phase}
use Rattle.plan_machine.specs.declared.entry.Job.{Job}
use Rattle.plan_machine.specs.declared.entry.Job.TheVariants.{Emit, Fold, Seal, Stream, Close, Tail}
use Rattle.plan_machine.specs.Batch.{Batch, blank}
use Rattle.plan_machine.specs.Lists.{at_or}
use Rattle.plan_machine.specs.Plan.{Plan as MachinePlan}
use Rattle.plan_nodes.specs.Operators.{OpMeaning}
use Rattle.std.specs.declared.alloc.Global.{Global}
use Rattle.std.specs.declared.sync.Arc.{Arc}
use Rattle.row_table.specs.Tables.{TableValue}
use Rattle.task_work.specs.declared.work.Part.{Part}
use Rattle.task_work.specs.declared.work.Share.{Share}
use Rattle.task_work.specs.declared.work.Share.TheVariants as share
use Rattle.task_work.specs.declared.work.Work.{Work}
use Rattle.task_work.specs.Work.{IsWork}
use Rattle.plan_machine.specs.State.{Task as MachineTask}
use Rattle.task_work.specs.declared.work.Waiting.{Waiting}
use Rattle.plan_store.specs.Told.{Told, plan_of, state_of, site_of}
use Rattle.run_state.specs.Choosing.{input_by}
use Rattle.run_state.specs.Stored.{PartStands, IsWaiting, waiting_item, goes_on}

-- a Fold and a Stream take a batch that waits
abbrev pub takes_batch : Job → Bool
takes_batch Emit = false
takes_batch Fold = true
takes_batch Seal = false
takes_batch Stream = true
takes_batch Close = false
takes_batch Tail = false

-- the edge that a node reads in its phase
abbrev pub reads_from : MachinePlan (List Value) → ℕ → Phase → ℕ
reads_from P n phase = input_by phase (P.node n).streams (P.node n).first (P.node n).second n

-- a share of a table, and a worker's part
abbrev pub HasTable : {O S L : Type 0} → Option (Share O S L) → Type 0
HasTable slot = (t : Arc TableValue Global) × (slot ≡ Some (share.Table t))

abbrev pub HasPart : {O S L : Type 0} → Option (Share O S L) → Type 0
HasPart {O} {S} {L} slot = (p : Part O S L) × (slot ≡ Some (share.Part p))

module _ {O S L : Type 0}
    (meaning : O → OpMeaning)
    (local_is : OpMeaning → List ColType → L → List (Batch (List Value)) → Type 0)
    (shared_is : OpMeaning → List (List ColType) → S → List (List Value) → List (Batch (List Value)) → Type 0)
  where
    -- it is the worker's share of a node, as it stood there
    abbrev pub IsShareOf : Told → (worker node : ℕ) → Option (Share O S L) → Type 0
    IsShareOf told worker node slot =
        (share : Share O S L)
        × (slot ≡ Some share)
        × PartStands meaning local_is shared_is (site_of told.given node) (nat_eq node (plan_of told.given).sink) ((state_of told).phase node) ((state_of told).locals node worker) ((state_of told).built node) ((state_of told).streamed node) share

    -- these are the shares of all workers
    pub record IsRowOf (told : Told) (node : ℕ) (row : List (Option (Share O S L))) : Type 0 where
      pub size : length row ≡ (plan_of told.given).workers
      pub each : (k : ℕ) → k < (plan_of told.given).workers → IsShareOf told (suc k) node (slice_index_or row k None)

    -- it is the work of the worker's task in flight, which stands at this node
    abbrev pub IsWorkOf : Told → (worker node : ℕ) → Work O S L → Type 0
    IsWorkOf told worker node w =
        (task : MachineTask (List Value))
        × ((state_of told).tasks worker ≡ Some task)
        × (task.node ≡ node)
        × IsWork meaning local_is shared_is (site_of told.given node) task w

-- it is the batch that has waited longest on the edge that the node reads
pub record IsOldest (told : Told) (node : ℕ) (w : Waiting) : Type 0 where
  pub item : waiting_item w ≡ at_or blank 0 ((state_of told).waiting (reads_from (plan_of told.given) node ((state_of told).phase node)))
  pub stands :
      IsWaiting (site_of told.given (reads_from (plan_of told.given) node ((state_of told).phase node))).columns
      (goes_on (plan_of told.given) (reads_from (plan_of told.given) node ((state_of told).phase node))) w
