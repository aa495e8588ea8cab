-- What the calls of a plan's state answer and leave.
use Rattle.std.specs.Prelude.{◌≡◌, ℕ, Bool, List, Some}
use Rattle.scalar_value.specs.declared.value.Value.{Value}
use Rattle.scalar_value.specs.declared.value.ColType.{ColType}
use Rattle.plan_machine.specs.declared.entry.Job.{Job}
use Rattle.plan_machine.specs.declared.entry.Entry.TheVariants.{Claim}
use Rattle.plan_machine.specs.Batch.{Batch}
use Rattle.plan_machine.specs.State.{Task as MachineTask}
use Rattle.plan_machine.specs.Driver.{IsClaimChoice}
use Rattle.plan_nodes.specs.Operators.{OpMeaning}
use Rattle.task_work.specs.declared.work.Work.{Work}
use Rattle.task_work.specs.declared.work.Fruit.{Fruit}
use Rattle.task_work.specs.Work.{IsWork, IsFruit}
use Rattle.plan_store.specs.Told.{Told, plan_of, state_of, site_of, with_entry}

module _ {O S L : Type 0}
    (meaning : O → OpMeaning)
    (local_is : OpMeaning → List ColType → L → List (Batch (List Value)) → Type 0)
    (shared_is : OpMeaning → List (List ColType) → S → List (List Value) → List (Batch (List Value)) → Type 0)
  where
    -- The work is that of the worker's task in flight, which stands at this node; the task knows whether the order of the
    -- node's rows is kept, and the rows of a batch.
    pub record IsInHand (told : Told) (worker node : ℕ) (kept : Bool) (batch : ℕ) (w : Work O S L) : Type 0 where
      pub task : MachineTask (List Value)
      pub flies : (state_of told).tasks worker ≡ Some task
      pub at_node : task.node ≡ node
      pub keeps : (site_of told.given node).kept ≡ kept
      pub cuts : (site_of told.given node).batch ≡ batch
      pub work : IsWork meaning local_is shared_is (site_of told.given node) task w

    -- The worker has claimed what the driver prefers, and has its work in hand. The claim takes the room of its own entry and
    -- that of its delivery.
    pub record Claimed (before now : Told) (worker node : ℕ) (kept : Bool) (batch : ℕ) (w : Work O S L) : Type 0 where
      pub job : Job
      pub number : ℕ
      pub chosen : IsClaimChoice (plan_of before.given) (state_of before) worker node job number
      pub told : now ≡ with_entry before (Claim worker node job number) 2
      pub in_hand : IsInHand now worker node kept batch w

    -- what the worker brings back is the fruit of its task in flight
    pub record IsDue (told : Told) (worker node : ℕ) (f : Fruit O S L) : Type 0 where
      pub task : MachineTask (List Value)
      pub flies : (state_of told).tasks worker ≡ Some task
      pub at_node : task.node ≡ node
      pub fruit : IsFruit meaning local_is shared_is (site_of told.given node) task f
