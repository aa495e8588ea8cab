-- What is read of a run that has ended.
use Rattle.std.specs.Prelude.{ℕ, List, []}
use Rattle.scalar_value.specs.declared.value.Value.{Value}
use Rattle.scalar_value.specs.declared.value.ColType.{ColType}
use Rattle.plan_machine.specs.Batch.{Batch}
use Rattle.plan_nodes.specs.Operators.{OpMeaning}
use Rattle.task_work.specs.declared.work.Part.{Part}
use Rattle.task_work.specs.Work as work
use Rattle.plan_store.specs.declared.queue.Queue.{Queue}
use Rattle.plan_store.specs.Told.{Told, plan_of, state_of, site_of}

abbrev pub peak_of : Queue → ℕ
peak_of q = q.edge.peak

module _ {O S L : Type 0}
    (meaning : O → OpMeaning)
    (local_is : OpMeaning → List ColType → L → List (Batch (List Value)) → Type 0)
    (shared_is : OpMeaning → List (List ColType) → S → List (List Value) → List (Batch (List Value)) → Type 0)
  where
    -- a part at the sink: what all workers share there stands for the rows that the sink gathered
    abbrev pub IsSinkPart : Told → Part O S L → Type 0
    IsSinkPart told p = work.IsShared meaning local_is shared_is (site_of told.given (plan_of told.given).sink) ((state_of told).built (plan_of told.given).sink) [] p
