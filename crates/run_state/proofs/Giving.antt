-- A delivery that puts a batch on its node's own edge, and the worker's share back.
use Rattle.std.proofs.Common.{◌≡◌, ◌≢◌, ℕ, suc, ◌+◌, ◌-◌, ◌<◌, ◌≤◌, Bool, true, false, nat_eq, List, [], ◌∷◌, ◌++◌, length, Option, Some, None, refl, sym, ap, subst, ◌∙◌, inl, inr, arith, slice_index_or, slice_set}
use Rattle.std.proofs.lemmas.List.{length-set}
use Rattle.scalar_value.specs.declared.value.Value.{Value}
use Rattle.scalar_value.specs.declared.value.ColType.{ColType}
use Rattle.column_batch.specs.Batches.{BatchValue}
use Rattle.plan_machine.specs.declared.entry.Phase.TheVariants.{Streaming}
use Rattle.plan_machine.specs.declared.entry.Entry.{Entry}
use Rattle.plan_machine.specs.declared.entry.Entry.TheVariants.{Deliver}
use Rattle.plan_machine.specs.Lists.{upd}
use Rattle.plan_machine.specs.Batch.{Batch}
use Rattle.plan_machine.specs.Plan.{Plan as MachinePlan, IsNode, IsEdge, IsWorker, IsSource}
use Rattle.plan_machine.specs.State.{Task, opening}
use Rattle.plan_machine.specs.InFlight.{phase_of}
use Rattle.plan_machine.specs.After.{after}
use Rattle.plan_machine.specs.History.{IsHistory, state_after}
use Rattle.plan_machine.specs.WellFormed.{Lawful, WellFormed}
use Rattle.plan_machine.proofs.Steps.{run, good-opening}
use Rattle.plan_nodes.specs.Operators.{OpMeaning, item}
use Rattle.task_work.specs.declared.work.Share.{Share}
use Rattle.plan_store.specs.declared.queue.Queue.{Queue}
use Rattle.plan_store.specs.declared.stage.Stage.{Stage}
use Rattle.plan_store.specs.declared.stage.NodeInfo.{NodeInfo}
use Rattle.plan_store.specs.declared.stage.Flight.{Flight}
use Rattle.plan_store.specs.Told.{Given, plan_of, site_of}
use Rattle.run_state.specs.Stored.{PartStands, takes_all, goes_on, Stands}
use Rattle.plan_store.specs.Putting.{less_busy}
use Rattle.plan_store.specs.Putting.{IsGrown, HasRoom}
use Rattle.plan_store.proofs.At.{some_of}
use Rattle.run_state.proofs.Delivering.{peaks, peak_stays}
use Rattle.run_state.proofs.Landed.{Lands, put_at}
use Rattle.run_state.proofs.Queueing.{queues_back, room_at, fewer_wait}

pub item_is : (b : BatchValue) (from : ℕ) (index : Option ℕ) (rows : List (List Value)) → b.index ≡ index → b.rows ≡ rows → item b from ≡ record { index = index; rows = rows; from = from }
item_is b from index rows i r = ap (λ (x : Option ℕ). record { index = x; rows = b.rows; from = from }) i ∙ ap (λ (x : List (List Value)). record { index = index; rows = x; from = from }) r

-- ---- nodes that give have an edge

module _ {R : Type 0} (P : MachinePlan R) where
  not_sink : (n : ℕ) → IsNode P n → n ≢ P.sink → IsEdge P n
  not_sink n node ne = let a = node.0 in let b = node.1 in (a, omega arith)

  pub source_edge : WellFormed P → (n : ℕ) → IsNode P n → IsSource (P.node n) → IsEdge P n
  source_edge W n node is = not_sink n node (λ e. let a = W.sink.folds in let b = ap (λ m. (P.node m).start) e in cc)

  pub tail_edge : WellFormed P → (n : ℕ) → IsNode P n → (P.node n).tails ≡ true → IsEdge P n
  tail_edge W n node is = not_sink n node (λ e. let a = W.sink.only_folds.1 in let b = ap (λ m. (P.node m).tails) e in cc)

  pub stream_edge : Lawful P → WellFormed P → (es : List Entry) → IsHistory P es → (state_after P es).failed ≡ false → (n : ℕ) → IsNode P n → (state_after P es).phase n ≡ Streaming → IsEdge P n
  stream_edge L W es legal sound n node is =
      not_sink n node (λ e.
      let started = (run P L W es (opening P) (good-opening P L W) legal sound).good.sound.fit.started in
      elim (started.streaming n node is) [
        | inl only ↦ let a = W.sink.folds in let b = ap (λ m. (P.node m).start) e in cc
        | inr join ↦ let a = W.sink.only_folds.0 in let b = ap (λ m. (P.node m).streams) e in let c = join.1 in cc
      ])

module _ {O S L : Type 0}
    (meaning : O → OpMeaning)
    (local_is : OpMeaning → List ColType → L → List (Batch (List Value)) → Type 0)
    (shared_is : OpMeaning → List (List ColType) → S → List (List Value) → List (Batch (List Value)) → Type 0)
    (g : Given)
  where
    -- the room that a delivery has on an edge on which it puts a batch
    pub room_on : (es : List Entry) (infos : List NodeInfo) (stages : List Stage) (queues : List Queue) (rows : List (List (Option (Share O S L)))) (seats : List (Option Flight)) (failed : Bool) (count room capacity w p : ℕ) (t : Task (List Value))
        → Stands meaning local_is shared_is g es infos stages queues rows seats failed count room capacity
        → IsWorker (plan_of g) w → (state_after (plan_of g) es).tasks w ≡ Some t → IsEdge (plan_of g) (suc p)
        → length ((state_after (plan_of g) es).waiting (suc p)) + 1 ≤ length ((after (plan_of g) (state_after (plan_of g) es) (Deliver w)).waiting (suc p))
        → HasRoom queues (suc p)
    room_on es infos stages queues rows seats failed count room capacity w p t h worker busy edge more =
        let s = state_after (plan_of g) es in
        let fewer = fewer_wait (plan_of g) es (Deliver w) (suc p) h.legal (worker, (t, busy)) edge more in
        let all = h.stored.all_queues in
        let upper = edge.1 in
        let a = h.sizes.workers.1 in
        let b = h.sizes.pause in
        let small : (plan_of g).pause + (plan_of g).workers ≤ 1088 = omega arith in
        room_at (λ n. (site_of g n).columns) (goes_on (plan_of g)) ((plan_of g).pause + (plan_of g).workers) s.paused s.waiting (peaks meaning local_is shared_is g es) queues p
        (omega arith) h.stored.queues_are fewer small

    pub give_at : (es : List Entry) (infos : List NodeInfo) (stages stages' : List Stage) (queues queues' : List Queue) (rows rows' : List (List (Option (Share O S L)))) (seats seats' : List (Option Flight)) (failed : Bool) (count count' room capacity capacity' q p : ℕ) (t : Task (List Value)) (share : Share O S L) (out : BatchValue) (b : Batch (List Value))
        → Stands meaning local_is shared_is g es infos stages queues rows seats failed count room capacity
        → IsWorker (plan_of g) (suc q) → (state_after (plan_of g) es).tasks (suc q) ≡ Some t → t.node ≡ suc p
        → Lands (plan_of g) (state_after (plan_of g) es) (suc q) (suc p) t → takes_all t.job ≡ false
        → IsEdge (plan_of g) (suc p)
        → after (plan_of g) (state_after (plan_of g) es) (Deliver (suc q)) ≡ record (state_after (plan_of g) es) { waiting = upd (state_after (plan_of g) es).waiting (suc p) ((state_after (plan_of g) es).waiting (suc p) ++ b ∷ []); tasks = upd (state_after (plan_of g) es).tasks (suc q) None }
        → out.kinds ≡ (site_of g (suc p)).columns → item out 0 ≡ b
        → PartStands meaning local_is shared_is (site_of g (suc p)) (nat_eq (suc p) (plan_of g).sink) (phase_of t.job) ((state_after (plan_of g) es).locals (suc p) (suc q)) t.built t.streamed share
        → seats' ≡ slice_set seats q None
        → ((d : Stage) → stages' ≡ slice_set stages p (less_busy (slice_index_or stages p d)))
        → ((d : List (Option (Share O S L))) → rows' ≡ slice_set rows p (slice_set (slice_index_or rows p d) q (Some share)))
        → ((d : Queue) → (q' : Queue) × (queues' ≡ slice_set queues p q') × IsGrown (slice_index_or queues p d) ((slice_index_or queues p d).waiting.items ++ record { batch = out; from = 0 } ∷ []) q')
        → count' ≡ count - 1 → capacity' ≡ capacity
        → Stands meaning local_is shared_is g (es ++ Deliver (suc q) ∷ []) infos stages' queues' rows' seats' failed count' room capacity'
    give_at es infos stages stages' queues queues' rows rows' seats seats' failed count count' room capacity capacity' q p t share out b h worker busy here k own edge is columns item part seats_set stages_set rows_set queues_set less same =
        let P = plan_of g in
        let s = state_after P es in
        let within : p < length queues = let all = h.stored.all_queues in let upper = edge.1 in omega arith in
        let d = some_of p queues within in
        let made = queues_set d in
        let q' : Queue = made.0 in
        let set : queues' ≡ slice_set queues p q' = made.1 in
        let grown : IsGrown (slice_index_or queues p d) ((slice_index_or queues p d).waiting.items ++ record { batch = out; from = 0 } ∷ []) q' = made.2 in
        subst (λ xs. Stands meaning local_is shared_is g (es ++ Deliver (suc q) ∷ []) infos stages' xs rows' seats' failed count' room capacity') (sym set)
        (put_at meaning local_is shared_is g es s.locals s.folded (upd s.waiting (suc p) (s.waiting (suc p) ++ b ∷ [])) infos stages stages' queues (slice_set queues p q') rows rows' seats seats' failed count count' room capacity capacity' q p t share h worker busy here k own is
        (λ n ne. refl) (λ m ne. refl) part
        (length-set queues p q')
        (queues_back (λ n. (site_of g n).columns) (goes_on P) (P.pause + P.workers) s.paused s.waiting (peaks meaning local_is shared_is g es) queues p d q' (record { batch = out; from = 0 }) b within
        (peak_stays meaning local_is shared_is g es) h.stored.queues_are grown (record { columns_are = columns; starts = inr refl }) item)
        seats_set stages_set rows_set less same)
