-- A delivery of a Tail.
use Rattle.std.proofs.Common.{◌≡◌, ℕ, suc, ◌-◌, ◌*◌, Bool, true, take, drop, nat_eq, List, [], ◌∷◌, ◌++◌, length, Option, Some, None, refl, sym, ap, subst, ◌∙◌, arith, slice_index_or, slice_set}
use Rattle.std.proofs.lemmas.List.{length-append}
use Rattle.scalar_value.specs.declared.value.Value.{Value}
use Rattle.scalar_value.specs.declared.value.ColType.{ColType}
use Rattle.column_batch.specs.Batches.{BatchValue}
use Rattle.plan_machine.specs.declared.entry.Phase.{Phase}
use Rattle.plan_machine.specs.declared.entry.Job.TheVariants.{Tail}
use Rattle.plan_machine.specs.declared.entry.Entry.{Entry}
use Rattle.plan_machine.specs.declared.entry.Entry.TheVariants.{Deliver}
use Rattle.plan_machine.specs.Batch.{Batch, piece, rows_of}
use Rattle.plan_machine.specs.Plan.{IsNode}
use Rattle.plan_machine.specs.State.{State, Task}
use Rattle.plan_machine.specs.InFlight.{phase_of}
use Rattle.plan_machine.specs.After.{after, landed}
use Rattle.plan_machine.specs.History.{state_after}
use Rattle.plan_machine.proofs.Weigh.{upd-here}
use Rattle.plan_nodes.specs.Operators.{OpMeaning, item, end_part}
use Rattle.plan_nodes.specs.Plans.{machine_node_at}
use Rattle.task_work.specs.declared.work.Share.{Share}
use Rattle.task_work.specs.declared.work.Share.TheVariants as share
use Rattle.task_work.specs.declared.work.Part.{Part}
use Rattle.task_work.specs.declared.work.Fruit.TheVariants as fruit
use Rattle.task_work.specs.Work.{IsOut}
use Rattle.plan_store.specs.declared.queue.Queue.{Queue}
use Rattle.plan_store.specs.declared.stage.Stage.{Stage}
use Rattle.plan_store.specs.declared.stage.NodeInfo.{NodeInfo}
use Rattle.plan_store.specs.declared.stage.Flight.{Flight}
use Rattle.plan_store.specs.Told.{Given, plan_of, site_of}
use Rattle.run_state.specs.Stored.{PartStands, takes_all, Stands}
use Rattle.plan_store.specs.Putting.{less_busy}
use Rattle.plan_store.specs.Putting.{IsGrown, HasRoom}
use Rattle.run_state.proofs.Known.{known}
use Rattle.run_state.proofs.Landed.{Lands, lands, after_landed}
use Rattle.run_state.proofs.Bringing.{Brings, BringsAt, placed}
use Rattle.run_state.proofs.Sizes.{size_tails}
use Rattle.run_state.proofs.Giving.{item_is, tail_edge, room_on, give_at}

module _ {O S L : Type 0}
    (meaning : O → OpMeaning)
    (local_is : OpMeaning → List ColType → L → List (Batch (List Value)) → Type 0)
    (shared_is : OpMeaning → List (List ColType) → S → List (List Value) → List (Batch (List Value)) → Type 0)
    (g : Given)
  where
    -- the batch that a node gives at its end is that of its rows
    tailed : (n : ℕ) (t : Task (List Value)) (out : BatchValue) → ((plan_of g).node n).tails ≡ true
        → IsOut meaning local_is shared_is (site_of g n) (Some t.number) (end_part (site_of g n).meaning t.built t.streamed t.number) out
        → item out 0 ≡ piece ((plan_of g).node n).kept (plan_of g).batch (((plan_of g).node n).rest t.built (rows_of t.streamed)) t.number
    unfolding site_of machine_node_at
    tailed n t out tails is =
        item_is out 0 _ _ is.at
        (is.given ∙ ap (λ (k : ℕ). take k (drop (t.number * k) (((plan_of g).node n).rest t.built (rows_of t.streamed)))) (size_tails g n tails))

    tails : (es : List Entry) (infos : List NodeInfo) (stages : List Stage) (queues : List Queue) (rows : List (List (Option (Share O S L)))) (seats : List (Option Flight)) (failed : Bool) (count room capacity w n : ℕ) (t : Task (List Value))
        → Stands meaning local_is shared_is g es infos stages queues rows seats failed count room capacity
        → Lands (plan_of g) (state_after (plan_of g) es) w n t → IsNode (plan_of g) n → t.job ≡ Tail → ((plan_of g).node n).tails ≡ true
    tails es infos stages queues rows seats failed count room capacity w n t h k node job =
        (known (plan_of g) h.lawful h.well es h.legal k.sound).tailing n node (k.phase ∙ ap phase_of job)

    after_tail : (es : List Entry) (infos : List NodeInfo) (stages : List Stage) (queues : List Queue) (rows : List (List (Option (Share O S L)))) (seats : List (Option Flight)) (failed : Bool) (count room capacity q p : ℕ) (t0 : Task (List Value)) (part : Part O S L) (out : BatchValue)
        → Stands meaning local_is shared_is g es infos stages queues rows seats failed count room capacity
        → BringsAt meaning local_is shared_is (record { given = g; history = es; room = room }) q p (fruit.Tail part out) t0
        → after (plan_of g) (state_after (plan_of g) es) (Deliver (suc q)) ≡ landed (plan_of g) (state_after (plan_of g) es) (suc q) (record t0 { node = suc p }) Tail
    after_tail es infos stages queues rows seats failed count room capacity q p t0 part out h b =
        after_landed meaning local_is shared_is g es (suc q) (suc p) (record t0 { node = suc p }) b.flies refl b.kept ∙ ap (landed (plan_of g) (state_after (plan_of g) es) (suc q) (record t0 { node = suc p })) b.fruit.0

    tail_at : (es : List Entry) (infos : List NodeInfo) (stages stages' : List Stage) (queues queues' : List Queue) (rows rows' : List (List (Option (Share O S L)))) (seats seats' : List (Option Flight)) (failed : Bool) (count count' room capacity capacity' q p : ℕ) (t0 : Task (List Value)) (part : Part O S L) (out : BatchValue)
        → Stands meaning local_is shared_is g es infos stages queues rows seats failed count room capacity
        → BringsAt meaning local_is shared_is (record { given = g; history = es; room = room }) q p (fruit.Tail part out) t0
        → IsNode (plan_of g) (suc p)
        → seats' ≡ slice_set seats q None
        → ((d : Stage) → stages' ≡ slice_set stages p (less_busy (slice_index_or stages p d)))
        → ((d : List (Option (Share O S L))) → rows' ≡ slice_set rows p (slice_set (slice_index_or rows p d) q (Some (share.Part part))))
        → ((d : Queue) → (q' : Queue) × (queues' ≡ slice_set queues p q') × IsGrown (slice_index_or queues p d) ((slice_index_or queues p d).waiting.items ++ record { batch = out; from = 0 } ∷ []) q')
        → count' ≡ count - 1 → capacity' ≡ capacity
        → Stands meaning local_is shared_is g (es ++ Deliver (suc q) ∷ []) infos stages' queues' rows' seats' failed count' room capacity'
    tail_at es infos stages stages' queues queues' rows rows' seats seats' failed count count' room capacity capacity' q p t0 part out h b node seats_set stages_set rows_set queues_set less same =
        let P = plan_of g in
        let s = state_after P es in
        let t : Task (List Value) = record t0 { node = suc p } in
        let job : t.job ≡ Tail = b.fruit.0 in
        let k = lands P h.lawful h.well es h.legal (suc q) (suc p) t b.worker b.flies refl b.kept in
        give_at meaning local_is shared_is g es infos stages stages' queues queues' rows rows' seats seats' failed count count' room capacity capacity' q p t (share.Part part) out (piece (P.node (suc p)).kept P.batch ((P.node (suc p)).rest t.built (rows_of t.streamed)) t.number) h b.worker b.flies refl k
        (ap takes_all job)
        (tail_edge P h.well (suc p) node (tails es infos stages queues rows seats failed count room capacity (suc q) (suc p) t h k node job))
        (after_tail es infos stages queues rows seats failed count room capacity q p t0 part out h b)
        b.fruit.2.columns (tailed (suc p) t out (tails es infos stages queues rows seats failed count room capacity (suc q) (suc p) t h k node job) b.fruit.2)
        (subst (λ (x : Phase). PartStands meaning local_is shared_is (site_of g (suc p)) (nat_eq (suc p) P.sink) x (s.locals (suc p) (suc q)) t.built t.streamed (share.Part part)) (sym (ap phase_of job)) b.fruit.1)
        seats_set stages_set rows_set queues_set less same

    pub tail_delivered : (es : List Entry) (infos : List NodeInfo) (stages stages' : List Stage) (queues queues' : List Queue) (rows rows' : List (List (Option (Share O S L)))) (seats seats' : List (Option Flight)) (failed : Bool) (count count' room capacity capacity' w n : ℕ) (part : Part O S L) (out : BatchValue)
        → Stands meaning local_is shared_is g es infos stages queues rows seats failed count room capacity
        → Brings meaning local_is shared_is (record { given = g; history = es; room = room }) w n (fruit.Tail part out)
        → seats' ≡ slice_set seats (w - 1) None
        → ((d : Stage) → stages' ≡ slice_set stages (n - 1) (less_busy (slice_index_or stages (n - 1) d)))
        → ((d : List (Option (Share O S L))) → rows' ≡ slice_set rows (n - 1) (slice_set (slice_index_or rows (n - 1) d) (w - 1) (Some (share.Part part))))
        → ((d : Queue) → (q' : Queue) × (queues' ≡ slice_set queues (n - 1) q') × IsGrown (slice_index_or queues (n - 1) d) ((slice_index_or queues (n - 1) d).waiting.items ++ record { batch = out; from = 0 } ∷ []) q')
        → count' ≡ count - 1 → capacity' ≡ capacity
        → Stands meaning local_is shared_is g (es ++ Deliver w ∷ []) infos stages' queues' rows' seats' failed count' room capacity'
    tail_delivered es infos stages stages' queues queues' rows rows' seats seats' failed count count' room capacity capacity' w n part out h b seats_set stages_set rows_set queues_set less same =
        let at = placed meaning local_is shared_is (record { given = g; history = es; room = room }) w n (fruit.Tail part out) h.legal b in
        subst (λ v. Stands meaning local_is shared_is g (es ++ Deliver v ∷ []) infos stages' queues' rows' seats' failed count' room capacity') at.at_worker
        (tail_at es infos stages stages' queues queues' rows rows' seats seats' failed count count' room capacity capacity' (w - 1) (n - 1) at.task part out h at.brings (subst (λ m. IsNode (plan_of g) m) (sym at.at_node) at.node) seats_set stages_set rows_set queues_set less same)

    -- the room for the batch that an Tail gives
    pub tail_room : (es : List Entry) (infos : List NodeInfo) (stages : List Stage) (queues : List Queue) (rows : List (List (Option (Share O S L)))) (seats : List (Option Flight)) (failed : Bool) (count room capacity w n : ℕ) (part : Part O S L) (out : BatchValue)
        → Stands meaning local_is shared_is g es infos stages queues rows seats failed count room capacity
        → Brings meaning local_is shared_is (record { given = g; history = es; room = room }) w n (fruit.Tail part out)
        → HasRoom queues n
    tail_room es infos stages queues rows seats failed count room capacity w n part out h b =
        let P = plan_of g in
        let s = state_after P es in
        let at = placed meaning local_is shared_is (record { given = g; history = es; room = room }) w n (fruit.Tail part out) h.legal b in
        let t : Task (List Value) = record at.task { node = suc (n - 1) } in
        let k = lands P h.lawful h.well es h.legal (suc (w - 1)) (suc (n - 1)) t at.brings.worker at.brings.flies refl at.brings.kept in
        let is = after_tail es infos stages queues rows seats failed count room capacity (w - 1) (n - 1) at.task part out h at.brings in
        let x : Batch (List Value) = piece (P.node (suc (n - 1))).kept P.batch ((P.node (suc (n - 1))).rest t.built (rows_of t.streamed)) t.number in
        let waits : (after P s (Deliver (suc (w - 1)))).waiting (suc (n - 1)) ≡ s.waiting (suc (n - 1)) ++ x ∷ [] = ap (λ (y : State (List Value)). y.waiting (suc (n - 1))) is ∙ upd-here s.waiting (suc (n - 1)) (s.waiting (suc (n - 1)) ++ x ∷ []) in
        let long = ap (λ (xs : List (Batch (List Value))). length xs) waits in
        let one = length-append (s.waiting (suc (n - 1))) (x ∷ []) in
        subst (λ m. HasRoom queues m) at.at_node
        (room_on meaning local_is shared_is g es infos stages queues rows seats failed count room capacity (suc (w - 1)) (n - 1) t h at.brings.worker at.brings.flies
        (tail_edge P h.well (suc (n - 1)) (subst (λ m. IsNode P m) (sym at.at_node) at.node) (tails es infos stages queues rows seats failed count room capacity (suc (w - 1)) (suc (n - 1)) t h k (subst (λ m. IsNode P m) (sym at.at_node) at.node) at.brings.fruit.0))
        (omega arith))
