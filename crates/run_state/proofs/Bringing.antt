-- What a worker brings back of a task that lands.
use Rattle.std.proofs.Common.{◌≡◌, ℕ, suc, ◌-◌, Option, Bool, false, List, Some, sym, ap, subst, ◌∙◌, arith}
use Rattle.scalar_value.specs.declared.value.Value.{Value}
use Rattle.scalar_value.specs.declared.value.ColType.{ColType}
use Rattle.plan_machine.specs.declared.entry.Entry.{Entry}
use Rattle.plan_machine.specs.Batch.{Batch}
use Rattle.plan_machine.specs.Plan.{IsNode, IsWorker}
use Rattle.plan_machine.specs.State.{Task}
use Rattle.plan_machine.specs.History.{IsHistory, state_after}
use Rattle.plan_nodes.specs.Operators.{OpMeaning}
use Rattle.task_work.specs.declared.work.Fruit.{Fruit}
use Rattle.task_work.specs.Work.{IsFruit}
use Rattle.plan_store.specs.Told.{Told, Given, plan_of, state_of, site_of}
use Rattle.run_state.specs.Calls.{IsDue}
use Rattle.task_work.specs.declared.work.Share.{Share}
use Rattle.plan_store.specs.declared.queue.Queue.{Queue}
use Rattle.plan_store.specs.declared.stage.Stage.{Stage}
use Rattle.plan_store.specs.declared.stage.NodeInfo.{NodeInfo}
use Rattle.plan_store.specs.declared.stage.Flight.{Flight}
use Rattle.run_state.specs.Stored.{Stands}
use Rattle.plan_store.specs.Putting.{HasPlace}
use Rattle.run_state.specs.Delivering.{is_dropped}
use Rattle.run_state.proofs.Seated.{seated}

module _ {O S L : Type 0}
    (meaning : O → OpMeaning)
    (local_is : OpMeaning → List ColType → L → List (Batch (List Value)) → Type 0)
    (shared_is : OpMeaning → List (List ColType) → S → List (List Value) → List (Batch (List Value)) → Type 0)
  where
    -- the worker brings back the fruit of its task in flight, which isn't dropped
    pub record Brings (told : Told) (w n : ℕ) (f : Fruit O S L) : Type 0 where
      pub worker : IsWorker (plan_of told.given) w
      pub due : IsDue meaning local_is shared_is told w n f
      pub kept : is_dropped told n ≡ false

    -- the same by the places of worker and node, where the task's node is the number of its place
    pub record BringsAt (told : Told) (q p : ℕ) (f : Fruit O S L) (t : Task (List Value)) : Type 0 where
      pub worker : IsWorker (plan_of told.given) (suc q)
      pub flies : (state_of told).tasks (suc q) ≡ Some (record t { node = suc p })
      pub fruit : IsFruit meaning local_is shared_is (site_of told.given (suc p)) (record t { node = suc p }) f
      pub kept : is_dropped told (suc p) ≡ false

    brings_at : (told : Told) (q p : ℕ) (f : Fruit O S L) → (b : Brings told (suc q) (suc p) f) → BringsAt told q p f b.due.task
    brings_at told q p f b =
        let same : b.due.task ≡ record b.due.task { node = suc p } = ap (λ (k : ℕ). record b.due.task { node = k }) b.due.at_node in
        record {
          worker = b.worker;
          flies = b.due.flies ∙ ap (λ (t : Task (List Value)). Some t) same;
          fruit = subst (λ (t : Task (List Value)). IsFruit meaning local_is shared_is (site_of told.given (suc p)) t f) same b.due.fruit;
          kept = b.kept;
        }

    -- the places of what is brought
    pub record Placed (told : Told) (w n : ℕ) (f : Fruit O S L) : Type 0 where
      pub node : IsNode (plan_of told.given) n
      pub at_worker : suc (w - 1) ≡ w
      pub at_node : suc (n - 1) ≡ n
      pub task : Task (List Value)
      pub brings : BringsAt told (w - 1) (n - 1) f task

    pub placed : (told : Told) (w n : ℕ) (f : Fruit O S L) → IsHistory (plan_of told.given) told.history → Brings told w n f → Placed told w n f
    placed told w n f legal b =
        let node : IsNode (plan_of told.given) n = subst (λ k. IsNode (plan_of told.given) k) b.due.at_node ((seated (plan_of told.given) told.history legal).at_node w b.due.task b.due.flies) in
        let low = b.worker.0 in
        let low' = node.0 in
        let at : suc (w - 1) ≡ w = omega arith in
        let at' : suc (n - 1) ≡ n = omega arith in
        let b' : Brings told (suc (w - 1)) (suc (n - 1)) f = subst (λ v. Brings told v (suc (n - 1)) f) (sym at) (subst (λ k. Brings told w k f) (sym at') b) in
        record { node = node; at_worker = at; at_node = at'; task = b'.due.task; brings = brings_at told (w - 1) (n - 1) f b' }

    -- the places of the node in what is stored
    pub record Places {A B C D : Type 0} (infos : List A) (stages : List B) (queues : List C) (rows : List D) (n : ℕ) : Type 0 where
      pub infos_at : HasPlace infos n
      pub stages_at : HasPlace stages n
      pub queues_at : HasPlace queues n
      pub rows_at : HasPlace rows n

    pub places : (g : Given) (es : List Entry) (infos : List NodeInfo) (stages : List Stage) (queues : List Queue) (rows : List (List (Option (Share O S L)))) (seats : List (Option Flight)) (failed : Bool) (count room capacity w n : ℕ) (t : Task (List Value))
        → Stands meaning local_is shared_is g es infos stages queues rows seats failed count room capacity
        → (state_after (plan_of g) es).tasks w ≡ Some t → t.node ≡ n
        → Places infos stages queues rows n
    places g es infos stages queues rows seats failed count room capacity w n t h busy here =
        let node : IsNode (plan_of g) n = subst (λ k. IsNode (plan_of g) k) here ((seated (plan_of g) es h.legal).at_node w t busy) in
        let low = node.0 in
        let upper = node.1 in
        let a = h.stored.all_infos in
        let b = h.stored.all_stages in
        let c = h.stored.all_queues in
        let d = h.stored.all_rows in
        record { infos_at = (low, omega arith); stages_at = (low, omega arith); queues_at = (low, omega arith); rows_at = (low, omega arith) }
