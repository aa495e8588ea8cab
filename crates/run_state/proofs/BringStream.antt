-- A delivery of a Stream.
use Rattle.std.proofs.Common.{◌≡◌, ◌≢◌, ℕ, suc, ◌+◌, ◌-◌, ◌<◌, ◌≤◌, max, Bool, false, nat_eq, List, [], ◌∷◌, ◌++◌, length, Option, Some, None, refl, sym, ap, subst, ◌∙◌, inl, inr, arith, slice_index_or, slice_set}
use Rattle.std.proofs.lemmas.List.{length-set, length-append, get_or-set_other}
use Rattle.scalar_value.specs.declared.value.Value.{Value}
use Rattle.scalar_value.specs.declared.value.ColType.{ColType}
use Rattle.column_batch.specs.Batches.{BatchValue}
use Rattle.plan_machine.specs.declared.entry.Phase.{Phase}
use Rattle.plan_machine.specs.declared.entry.Phase.TheVariants.{Streaming}
use Rattle.plan_machine.specs.declared.entry.Job.TheVariants.{Stream}
use Rattle.plan_machine.specs.declared.entry.Entry.{Entry}
use Rattle.plan_machine.specs.declared.entry.Entry.TheVariants.{Deliver}
use Rattle.plan_machine.specs.Lists.{upd}
use Rattle.plan_machine.specs.Batch.{Batch}
use Rattle.plan_machine.specs.Plan.{Plan as MachinePlan, IsNode, IsEdge, streams_from}
use Rattle.plan_machine.specs.State.{State, Task, opening}
use Rattle.plan_machine.specs.InFlight.{phase_of}
use Rattle.plan_machine.specs.After.{after, landed, sent, back}
use Rattle.plan_machine.specs.History.{IsHistory, state_after}
use Rattle.plan_machine.specs.WellFormed.{Lawful, WellFormed, IsInput}
use Rattle.plan_machine.proofs.Weigh.{upd-here, upd-else, same_or}
use Rattle.plan_machine.proofs.BoundLoad.{put-length}
use Rattle.plan_machine.proofs.Steps.{run, good-opening}
use Rattle.plan_machine.proofs.Turn.{streams_input, input_edge}
use Rattle.plan_nodes.specs.Operators.{OpMeaning, item, first_of}
use Rattle.task_work.specs.declared.work.Share.{Share}
use Rattle.task_work.specs.declared.work.Share.TheVariants as share
use Rattle.task_work.specs.declared.work.Part.{Part}
use Rattle.task_work.specs.declared.work.Waiting.{Waiting}
use Rattle.task_work.specs.declared.work.Fruit.TheVariants as fruit
use Rattle.task_work.specs.Work.{IsPart}
use Rattle.plan_store.specs.declared.queue.Queue.{Queue}
use Rattle.plan_store.specs.declared.stage.Stage.{Stage}
use Rattle.plan_store.specs.declared.stage.NodeInfo.{NodeInfo}
use Rattle.plan_store.specs.declared.stage.Flight.{Flight}
use Rattle.plan_store.specs.Told.{Given, plan_of, site_of}
use Rattle.run_state.specs.Stored.{Held, InfoIs, QueueIs, PartStands, takes_all, goes_on, Stands}
use Rattle.plan_store.specs.Putting.{less_busy}
use Rattle.plan_store.specs.Putting.{IsGrown, HasRoom}
use Rattle.run_state.proofs.Held.{held_map}
use Rattle.plan_store.proofs.At.{some_of}
use Rattle.run_state.proofs.Delivering.{AllQueues, peaks, peak_stays}
use Rattle.run_state.proofs.Landed.{Lands, lands, after_landed, put_at}
use Rattle.run_state.proofs.Bringing.{Brings, BringsAt, placed}
use Rattle.run_state.proofs.Giving.{stream_edge, room_on}
use Rattle.run_state.proofs.Queueing.{queues_front, queues_back}
use Rattle.run_state.proofs.Streamed.{Left, first_columns, cut_edge, sent_is, left_is, room_moved}

-- the edge that a node in its Streaming phase streams
pub stream_input : {R : Type 0} (P : MachinePlan R) → Lawful P → WellFormed P → (es : List Entry) → IsHistory P es → (state_after P es).failed ≡ false → (n : ℕ) → IsNode P n → (state_after P es).phase n ≡ Streaming → IsInput P n (streams_from P n)
stream_input P L W es legal sound n node is =
    let started = (run P L W es (opening P) (good-opening P L W) legal sound).good.sound.fit.started in
    streams_input P W n node (started.streaming n node is)

-- what the call on the rest of a batch leaves of the queues
pub record RestPut (queues queues' : List Queue) (e : ℕ) (rest : Option Waiting) : Type 0 where
  pub none : rest ≡ None → queues' ≡ queues
  pub some : (w : Waiting) (d : Queue) → rest ≡ Some w → (q : Queue) × (queues' ≡ slice_set queues e q) × IsGrown (slice_index_or queues e d) (w ∷ (slice_index_or queues e d).waiting.items) q

-- the other queues are as they were
rest_else : (queues queues' : List Queue) (e p : ℕ) (rest : Option Waiting) (t : Task (List Value)) (batches : List (Batch (List Value))) (cuts : Bool) (kinds : List ColType)
    → Left t batches cuts kinds rest → RestPut queues queues' e rest → e < length queues → p ≢ e
    → (length queues' ≡ length queues) × ((d : Queue) → slice_index_or queues' p d ≡ slice_index_or queues p d)
rest_else queues queues' e p rest t batches cuts kinds (inl gone) put within ne =
    let same = put.none gone.0 in
    (ap (λ (xs : List Queue). length xs) same, λ d. ap (λ (xs : List Queue). slice_index_or xs p d) same)
rest_else queues queues' e p rest t batches cuts kinds (inr (w, left)) put within ne =
    let made = put.some w (some_of e queues within) left.is in
    (ap (λ (xs : List Queue). length xs) made.1 ∙ length-set queues e made.0, λ d. ap (λ (xs : List Queue). slice_index_or xs p d) made.1 ∙ get_or-set_other queues e p made.0 d ne)

module _ {O S L : Type 0}
    (meaning : O → OpMeaning)
    (local_is : OpMeaning → List ColType → L → List (Batch (List Value)) → Type 0)
    (shared_is : OpMeaning → List (List ColType) → S → List (List Value) → List (Batch (List Value)) → Type 0)
    (g : Given)
  where
    -- the queues, once what is left of a batch is put back on the edge that it came from
    rest_queues : (s : State (List Value)) (most : ℕ → ℕ) (queues queues' : List Queue) (e p : ℕ) (rest : Option Waiting) (t : Task (List Value)) (batches : List (Batch (List Value)))
        → ((m : ℕ) → most m ≡ max (most m) (length (s.waiting m)))
        → AllQueues meaning local_is shared_is g s.waiting s.paused most queues
        → Left t batches (site_of g (suc p)).meaning.cuts (first_of (site_of g (suc p)).inputs) rest
        → RestPut queues queues' e rest → e < length queues
        → (plan_of g).user (suc e) ≡ suc p → streams_from (plan_of g) (suc p) ≡ suc e
        → AllQueues meaning local_is shared_is g (upd s.waiting (suc e) (batches ++ s.waiting (suc e))) s.paused (λ m. max (most m) (length (upd s.waiting (suc e) (batches ++ s.waiting (suc e)) m))) queues'
    rest_queues s most queues queues' e p rest t batches covers h (inl gone) put within user from =
        let P = plan_of g in
        let waiting : ℕ → List (Batch (List Value)) = upd s.waiting (suc e) (batches ++ s.waiting (suc e)) in
        let here : waiting (suc e) ≡ s.waiting (suc e) = upd-here s.waiting (suc e) (batches ++ s.waiting (suc e)) ∙ ap (λ (xs : List (Batch (List Value))). xs ++ s.waiting (suc e)) gone.1 in
        let same : (m : ℕ) → s.waiting m ≡ waiting m =
        λ m. elim (same_or m (suc e)) [
          | inl q ↦ ap s.waiting q ∙ sym here ∙ ap waiting (sym q)
          | inr ne ↦ sym (upd-else s.waiting (suc e) (batches ++ s.waiting (suc e)) m ne)
        ] in
        subst (λ (xs : List Queue). AllQueues meaning local_is shared_is g waiting s.paused (λ m. max (most m) (length (waiting m))) xs) (sym (put.none gone.0))
        (held_map
        (λ n q. QueueIs (site_of g n).columns (goes_on P n) (P.pause + P.workers) (s.waiting n) (s.paused n) (most n) q)
        (λ n q. QueueIs (site_of g n).columns (goes_on P n) (P.pause + P.workers) (waiting n) (s.paused n) (max (most n) (length (waiting n))) q) queues h
        (λ n q old.
        subst (λ (xs : List (Batch (List Value))). QueueIs (site_of g n).columns (goes_on P n) (P.pause + P.workers) xs (s.paused n) (max (most n) (length xs)) q) (same n)
        (subst (λ m. QueueIs (site_of g n).columns (goes_on P n) (P.pause + P.workers) (s.waiting n) (s.paused n) m q) (covers n) old)))
    rest_queues s most queues queues' e p rest t batches covers h (inr (w, left)) put within user from =
        let P = plan_of g in
        let d = some_of e queues within in
        let made = put.some w d left.is in
        let columns : w.batch.kinds ≡ (site_of g (suc e)).columns = left.columns ∙ sym (first_columns g (suc p)) ∙ ap (λ (m : ℕ). (site_of g m).columns) from in
        subst (λ (xs : List Queue). AllQueues meaning local_is shared_is g (upd s.waiting (suc e) (batches ++ s.waiting (suc e))) s.paused (λ m. max (most m) (length (upd s.waiting (suc e) (batches ++ s.waiting (suc e)) m))) xs) (sym made.1)
        (subst (λ (ys : List (Batch (List Value))). AllQueues meaning local_is shared_is g (upd s.waiting (suc e) (ys ++ s.waiting (suc e))) s.paused (λ m. max (most m) (length (upd s.waiting (suc e) (ys ++ s.waiting (suc e)) m))) (slice_set queues e made.0)) (sym left.batch)
        (queues_front (λ n. (site_of g n).columns) (goes_on P) (P.pause + P.workers) s.paused s.waiting most queues e d made.0 w _ within covers h made.2
        (record { columns_are = columns; starts = inl (cut_edge g (suc p) (suc e) user from left.cut) }) refl))

    -- and the node's own batch behind those on its edge
    given_queues : (s : State (List Value)) (most : ℕ → ℕ) (queues queues' : List Queue) (e p : ℕ) (batches : List (Batch (List Value))) (b : Batch (List Value)) (out : BatchValue)
        → AllQueues meaning local_is shared_is g (upd s.waiting e (batches ++ s.waiting e)) s.paused (λ m. max (most m) (length (upd s.waiting e (batches ++ s.waiting e) m))) queues
        → p < length queues → suc p ≢ e
        → out.kinds ≡ (site_of g (suc p)).columns → item out 0 ≡ b
        → ((d : Queue) → (q' : Queue) × (queues' ≡ slice_set queues p q') × IsGrown (slice_index_or queues p d) ((slice_index_or queues p d).waiting.items ++ record { batch = out; from = 0 } ∷ []) q')
        → (length queues' ≡ length queues) × AllQueues meaning local_is shared_is g (upd (upd s.waiting e (batches ++ s.waiting e)) (suc p) (s.waiting (suc p) ++ b ∷ [])) s.paused (λ m. max (most m) (length (upd (upd s.waiting e (batches ++ s.waiting e)) (suc p) (s.waiting (suc p) ++ b ∷ []) m))) queues'
    given_queues s most queues queues' e p batches b out h within apart columns is set =
        let P = plan_of g in
        let d = some_of p queues within in
        let made = set d in
        let waiting : ℕ → List (Batch (List Value)) = upd s.waiting e (batches ++ s.waiting e) in
        let most1 : ℕ → ℕ = λ m. max (most m) (length (waiting m)) in
        let own : waiting (suc p) ≡ s.waiting (suc p) = upd-else s.waiting e (batches ++ s.waiting e) (suc p) apart in
        let put = queues_back (λ n. (site_of g n).columns) (goes_on P) (P.pause + P.workers) s.paused waiting most1 queues p d made.0 (record { batch = out; from = 0 }) b within
        (λ m. let m1 : most1 m ≡ max (most1 m) (length (waiting m)) = omega arith in m1) h made.2 (record { columns_are = columns; starts = inr refl }) is in
        let longer : (m : ℕ) → length (waiting m) ≤ length (upd waiting (suc p) (waiting (suc p) ++ b ∷ []) m) = λ m. let l = put-length waiting (suc p) m b in omega arith in (
          ap (λ (xs : List Queue). length xs) made.1 ∙ length-set queues p made.0,
          subst (λ (xs : List Queue). AllQueues meaning local_is shared_is g (upd waiting (suc p) (s.waiting (suc p) ++ b ∷ [])) s.paused (λ m. max (most m) (length (upd waiting (suc p) (s.waiting (suc p) ++ b ∷ []) m))) xs) (sym made.1)
              (subst (λ (ys : List (Batch (List Value))). AllQueues meaning local_is shared_is g (upd waiting (suc p) (ys ++ b ∷ [])) s.paused (λ m. max (most m) (length (upd waiting (suc p) (ys ++ b ∷ []) m))) (slice_set queues p made.0)) own
              (held_map
              (λ n q. QueueIs (site_of g n).columns (goes_on P n) (P.pause + P.workers) (upd waiting (suc p) (waiting (suc p) ++ b ∷ []) n) (s.paused n) (max (most1 n) (length (upd waiting (suc p) (waiting (suc p) ++ b ∷ []) n))) q)
              (λ n q. QueueIs (site_of g n).columns (goes_on P n) (P.pause + P.workers) (upd waiting (suc p) (waiting (suc p) ++ b ∷ []) n) (s.paused n) (max (most n) (length (upd waiting (suc p) (waiting (suc p) ++ b ∷ []) n))) q)
              (slice_set queues p made.0) put
              (λ n q old.
              let less = longer n in
              let same : max (most1 n) (length (upd waiting (suc p) (waiting (suc p) ++ b ∷ []) n)) ≡ max (most n) (length (upd waiting (suc p) (waiting (suc p) ++ b ∷ []) n)) = omega arith in
              subst (λ m. QueueIs (site_of g n).columns (goes_on P n) (P.pause + P.workers) (upd waiting (suc p) (waiting (suc p) ++ b ∷ []) n) (s.paused n) m q) same old))),
        )

    -- what is known of a Stream whose delivery lands
    record StreamAt (es : List Entry) (q p e : ℕ) (t : Task (List Value)) (rest : Option Waiting) : Type 0 where
      lands_at : Lands (plan_of g) (state_after (plan_of g) es) (suc q) (suc p) t
      input : IsInput (plan_of g) (suc p) (suc e)
      edge : IsEdge (plan_of g) (suc e)
      own : IsEdge (plan_of g) (suc p)
      apart : suc p ≢ suc e
      is : after (plan_of g) (state_after (plan_of g) es) (Deliver (suc q)) ≡ landed (plan_of g) (state_after (plan_of g) es) (suc q) t Stream
      left : Left t (back (plan_of g) t) (site_of g (suc p)).meaning.cuts (first_of (site_of g (suc p)).inputs) rest

    stream_here : (es : List Entry) (infos : List NodeInfo) (stages : List Stage) (queues : List Queue) (rows : List (List (Option (Share O S L)))) (seats : List (Option Flight)) (failed : Bool) (count room capacity q p e : ℕ) (t0 : Task (List Value)) (part : Part O S L) (out : BatchValue) (rest : Option Waiting)
        → Stands meaning local_is shared_is g es infos stages queues rows seats failed count room capacity
        → BringsAt meaning local_is shared_is (record { given = g; history = es; room = room }) q p (fruit.Stream part out rest) t0
        → IsNode (plan_of g) (suc p) → streams_from (plan_of g) (suc p) ≡ suc e
        → StreamAt es q p e (record t0 { node = suc p }) rest
    stream_here es infos stages queues rows seats failed count room capacity q p e t0 part out rest h b node from =
        let P = plan_of g in
        let s = state_after P es in
        let t : Task (List Value) = record t0 { node = suc p } in
        let job : t.job ≡ Stream = b.fruit.0 in
        let k = lands P h.lawful h.well es h.legal (suc q) (suc p) t b.worker b.flies refl b.kept in
        let streaming : s.phase (suc p) ≡ Streaming = k.phase ∙ ap phase_of job in
        let input : IsInput P (suc p) (suc e) = subst (λ (x : ℕ). IsInput P (suc p) x) from (stream_input P h.lawful h.well es h.legal k.sound (suc p) node streaming) in
        let before = input.before in
        record {
          lands_at = k;
          input = input;
          edge = input_edge P h.well (suc p) (suc e) node input;
          own = stream_edge P h.lawful h.well es h.legal k.sound (suc p) node streaming;
          apart = λ same. absurd (let no_way : ⊥ = omega arith in no_way);
          is = after_landed meaning local_is shared_is g es (suc q) (suc p) t b.flies refl b.kept ∙ ap (landed P s (suc q) t) job;
          left = left_is meaning local_is shared_is g (suc p) t rest b.fruit.3;
        }

    stream_at : (es : List Entry) (infos : List NodeInfo) (stages stages' : List Stage) (queues queues1 queues' : List Queue) (rows rows' : List (List (Option (Share O S L)))) (seats seats' : List (Option Flight)) (failed : Bool) (count count' room capacity capacity' q p e : ℕ) (t0 : Task (List Value)) (part : Part O S L) (out : BatchValue) (rest : Option Waiting)
        → Stands meaning local_is shared_is g es infos stages queues rows seats failed count room capacity
        → BringsAt meaning local_is shared_is (record { given = g; history = es; room = room }) q p (fruit.Stream part out rest) t0
        → IsNode (plan_of g) (suc p) → streams_from (plan_of g) (suc p) ≡ suc e
        → seats' ≡ slice_set seats q None
        → ((d : Stage) → stages' ≡ slice_set stages p (less_busy (slice_index_or stages p d)))
        → ((d : List (Option (Share O S L))) → rows' ≡ slice_set rows p (slice_set (slice_index_or rows p d) q (Some (share.Part part))))
        → RestPut queues queues1 e rest
        → ((d : Queue) → (q' : Queue) × (queues' ≡ slice_set queues1 p q') × IsGrown (slice_index_or queues1 p d) ((slice_index_or queues1 p d).waiting.items ++ record { batch = out; from = 0 } ∷ []) q')
        → count' ≡ count - 1 → capacity' ≡ capacity
        → Stands meaning local_is shared_is g (es ++ Deliver (suc q) ∷ []) infos stages' queues' rows' seats' failed count' room capacity'
    stream_at es infos stages stages' queues queues1 queues' rows rows' seats seats' failed count count' room capacity capacity' q p e t0 part out rest h b node from seats_set stages_set rows_set rest_put queues_set less same =
        let P = plan_of g in
        let s = state_after P es in
        let t : Task (List Value) = record t0 { node = suc p } in
        let job : t.job ≡ Stream = b.fruit.0 in
        let here = stream_here es infos stages queues rows seats failed count room capacity q p e t0 part out rest h b node from in
        let list : List (Batch (List Value)) = t.took ++ t.batch ∷ [] in
        let locals : ℕ → ℕ → List (Batch (List Value)) = upd s.locals (suc p) (upd (s.locals (suc p)) (suc q) list) in
        let row_is : locals (suc p) ≡ upd (s.locals (suc p)) (suc q) list = upd-here s.locals (suc p) (upd (s.locals (suc p)) (suc q) list) in
        let list_is : locals (suc p) (suc q) ≡ list = ap (λ (f : ℕ → List (Batch (List Value))). f (suc q)) row_is ∙ upd-here (s.locals (suc p)) (suc q) list in
        let all = h.stored.all_queues in
        let low = here.edge.1 in
        let high = node.1 in
        let within : e < length queues = omega arith in
        let apart : p ≢ e = λ x. here.apart (ap suc x) in
        let else = rest_else queues queues1 e p rest t (back P t) (site_of g (suc p)).meaning.cuts (first_of (site_of g (suc p)).inputs) here.left rest_put within apart in
        let long = else.0 in
        let within' : p < length queues1 = omega arith in
        let first = rest_queues s (peaks meaning local_is shared_is g es) queues queues1 e p rest t (back P t) (peak_stays meaning local_is shared_is g es) h.stored.queues_are here.left rest_put within here.input.user from in
        let first' = subst (λ (x : ℕ). AllQueues meaning local_is shared_is g (upd s.waiting x (back P t ++ s.waiting x)) s.paused (λ m. max (peaks meaning local_is shared_is g es m) (length (upd s.waiting x (back P t ++ s.waiting x) m))) queues1) (sym from) first in
        let both = given_queues s (peaks meaning local_is shared_is g es) queues1 queues' (streams_from P (suc p)) p (back P t) (sent P t) out first' within' (λ x. here.apart (x ∙ from)) b.fruit.2.columns (sent_is meaning local_is shared_is g (suc p) t out b.fruit.2) queues_set in
        put_at meaning local_is shared_is g es locals s.folded (upd (upd s.waiting (streams_from P (suc p)) (back P t ++ s.waiting (streams_from P (suc p)))) (suc p) (s.waiting (suc p) ++ sent P t ∷ [])) infos stages stages' queues queues' rows rows' seats seats' failed count count' room capacity capacity' q p t (share.Part part) h b.worker b.flies refl here.lands_at
        (ap takes_all job)
        here.is
        (λ n ne. upd-else s.locals (suc p) (upd (s.locals (suc p)) (suc q) list) n ne)
        (λ m ne. ap (λ (f : ℕ → List (Batch (List Value))). f (suc m)) row_is ∙ upd-else (s.locals (suc p)) (suc q) list (suc m) (λ x. ne (omega arith)))
        (subst (λ (x : Phase). PartStands meaning local_is shared_is (site_of g (suc p)) (nat_eq (suc p) P.sink) x (locals (suc p) (suc q)) t.built t.streamed (share.Part part)) (sym (ap phase_of job))
        (subst (λ x. IsPart meaning local_is shared_is (site_of g (suc p)) (first_of (site_of g (suc p)).inputs) x t.built [] part) (sym list_is) b.fruit.1))
        (both.0 ∙ else.0) both.1
        seats_set stages_set rows_set less same

    -- the edge that the node streams, by what is stored of it
    edge_is : (infos : List NodeInfo) (p edge : ℕ) → Held (λ n i. InfoIs (plan_of g) (site_of g n) n i) infos → p < length infos
        → ((d : NodeInfo) → edge ≡ (slice_index_or infos p d).first) → streams_from (plan_of g) (suc p) ≡ edge
    edge_is infos p edge h within is =
        let d = some_of p infos within in
        (h p d within).first ∙ sym (is d)

    -- the worker and the node by their places, and the edge by its own
    record StreamPlaces (es : List Entry) (room w n edge : ℕ) (part : Part O S L) (out : BatchValue) (rest : Option Waiting) : Type 0 where
      at_worker : suc (w - 1) ≡ w
      at_node : suc (n - 1) ≡ n
      at_edge : suc (edge - 1) ≡ edge
      task : Task (List Value)
      brings : BringsAt meaning local_is shared_is (record { given = g; history = es; room = room }) (w - 1) (n - 1) (fruit.Stream part out rest) task
      node : IsNode (plan_of g) (suc (n - 1))
      from : streams_from (plan_of g) (suc (n - 1)) ≡ suc (edge - 1)
      here : StreamAt es (w - 1) (n - 1) (edge - 1) (record task { node = suc (n - 1) }) rest

    stream_places : (es : List Entry) (infos : List NodeInfo) (stages : List Stage) (queues : List Queue) (rows : List (List (Option (Share O S L)))) (seats : List (Option Flight)) (failed : Bool) (count room capacity w n edge : ℕ) (part : Part O S L) (out : BatchValue) (rest : Option Waiting)
        → Stands meaning local_is shared_is g es infos stages queues rows seats failed count room capacity
        → Brings meaning local_is shared_is (record { given = g; history = es; room = room }) w n (fruit.Stream part out rest)
        → ((d : NodeInfo) → edge ≡ (slice_index_or infos (n - 1) d).first)
        → StreamPlaces es room w n edge part out rest
    stream_places es infos stages queues rows seats failed count room capacity w n edge part out rest h b edge_at =
        let P = plan_of g in
        let s = state_after P es in
        let at = placed meaning local_is shared_is (record { given = g; history = es; room = room }) w n (fruit.Stream part out rest) h.legal b in
        let node : IsNode P (suc (n - 1)) = subst (λ m. IsNode P m) (sym at.at_node) at.node in
        let f = at.brings in
        let t : Task (List Value) = record at.task { node = suc (n - 1) } in
        let k = lands P h.lawful h.well es h.legal (suc (w - 1)) (suc (n - 1)) t f.worker f.flies refl f.kept in
        let all = h.stored.all_infos in
        let high = node.1 in
        let within : n - 1 < length infos = omega arith in
        let from : streams_from P (suc (n - 1)) ≡ edge = edge_is infos (n - 1) edge h.stored.infos_are within edge_at in
        let input : IsInput P (suc (n - 1)) edge = subst (λ (x : ℕ). IsInput P (suc (n - 1)) x) from (stream_input P h.lawful h.well es h.legal k.sound (suc (n - 1)) node (k.phase ∙ ap phase_of f.fruit.0)) in
        let low = input.node in
        let at_edge : suc (edge - 1) ≡ edge = omega arith in
        record {
          at_worker = at.at_worker;
          at_node = at.at_node;
          at_edge = at_edge;
          task = at.task;
          brings = f;
          node = node;
          from = from ∙ sym at_edge;
          here = stream_here es infos stages queues rows seats failed count room capacity (w - 1) (n - 1) (edge - 1) at.task part out rest h f node (from ∙ sym at_edge);
        }

    pub stream_delivered : (es : List Entry) (infos : List NodeInfo) (stages stages' : List Stage) (queues queues1 queues' : List Queue) (rows rows' : List (List (Option (Share O S L)))) (seats seats' : List (Option Flight)) (failed : Bool) (count count' room capacity capacity' w n edge : ℕ) (part : Part O S L) (out : BatchValue) (rest : Option Waiting)
        → Stands meaning local_is shared_is g es infos stages queues rows seats failed count room capacity
        → Brings meaning local_is shared_is (record { given = g; history = es; room = room }) w n (fruit.Stream part out rest)
        → ((d : NodeInfo) → edge ≡ (slice_index_or infos (n - 1) d).first)
        → seats' ≡ slice_set seats (w - 1) None
        → ((d : Stage) → stages' ≡ slice_set stages (n - 1) (less_busy (slice_index_or stages (n - 1) d)))
        → ((d : List (Option (Share O S L))) → rows' ≡ slice_set rows (n - 1) (slice_set (slice_index_or rows (n - 1) d) (w - 1) (Some (share.Part part))))
        → RestPut queues queues1 (edge - 1) rest
        → ((d : Queue) → (q' : Queue) × (queues' ≡ slice_set queues1 (n - 1) q') × IsGrown (slice_index_or queues1 (n - 1) d) ((slice_index_or queues1 (n - 1) d).waiting.items ++ record { batch = out; from = 0 } ∷ []) q')
        → count' ≡ count - 1 → capacity' ≡ capacity
        → Stands meaning local_is shared_is g (es ++ Deliver w ∷ []) infos stages' queues' rows' seats' failed count' room capacity'
    stream_delivered es infos stages stages' queues queues1 queues' rows rows' seats seats' failed count count' room capacity capacity' w n edge part out rest h b edge_at seats_set stages_set rows_set rest_put queues_set less same =
        let at = stream_places es infos stages queues rows seats failed count room capacity w n edge part out rest h b edge_at in
        subst (λ v. Stands meaning local_is shared_is g (es ++ Deliver v ∷ []) infos stages' queues' rows' seats' failed count' room capacity') at.at_worker
        (stream_at es infos stages stages' queues queues1 queues' rows rows' seats seats' failed count count' room capacity capacity' (w - 1) (n - 1) (edge - 1) at.task part out rest h at.brings at.node at.from seats_set stages_set rows_set rest_put queues_set less same)

    -- the room for what is left of the batch
    pub stream_room_rest : (es : List Entry) (infos : List NodeInfo) (stages : List Stage) (queues : List Queue) (rows : List (List (Option (Share O S L)))) (seats : List (Option Flight)) (failed : Bool) (count room capacity w n edge : ℕ) (part : Part O S L) (out : BatchValue) (rest : Option Waiting) (x : Waiting)
        → Stands meaning local_is shared_is g es infos stages queues rows seats failed count room capacity
        → Brings meaning local_is shared_is (record { given = g; history = es; room = room }) w n (fruit.Stream part out rest)
        → ((d : NodeInfo) → edge ≡ (slice_index_or infos (n - 1) d).first)
        → rest ≡ Some x → HasRoom queues edge
    stream_room_rest es infos stages queues rows seats failed count room capacity w n edge part out rest x h b edge_at some =
        let P = plan_of g in
        let s = state_after P es in
        let at = stream_places es infos stages queues rows seats failed count room capacity w n edge part out rest h b edge_at in
        let k = at.here in
        let t : Task (List Value) = record at.task { node = suc (n - 1) } in
        let e : ℕ = suc (edge - 1) in
        let waiting : ℕ → List (Batch (List Value)) = upd s.waiting (streams_from P (suc (n - 1))) (back P t ++ s.waiting (streams_from P (suc (n - 1)))) in
        let own : List (Batch (List Value)) = s.waiting (suc (n - 1)) ++ sent P t ∷ [] in
        let one : length (back P t) ≡ 1 = elim k.left [ inl gone ↦ let no_rest = gone.0 in cc | inr left ↦ ap (λ (xs : List (Batch (List Value))). length xs) left.1.batch ] in
        let waits : (after P s (Deliver (suc (w - 1)))).waiting e ≡ back P t ++ s.waiting e =
        ap (λ (y : State (List Value)). y.waiting e) k.is
        ∙ upd-else waiting (suc (n - 1)) own e (λ y. k.apart (sym y))
        ∙ ap (λ (m : ℕ). upd s.waiting m (back P t ++ s.waiting m) e) at.from
        ∙ upd-here s.waiting e (back P t ++ s.waiting e) in
        let long = ap (λ (xs : List (Batch (List Value))). length xs) waits in
        let more = length-append (back P t) (s.waiting e) in
        subst (λ m. HasRoom queues m) at.at_edge
        (room_on meaning local_is shared_is g es infos stages queues rows seats failed count room capacity (suc (w - 1)) (edge - 1) t h at.brings.worker at.brings.flies k.edge (omega arith))

    -- the room for the node's own batch
    pub stream_room_out : (es : List Entry) (infos : List NodeInfo) (stages : List Stage) (queues queues1 : List Queue) (rows : List (List (Option (Share O S L)))) (seats : List (Option Flight)) (failed : Bool) (count room capacity w n edge : ℕ) (part : Part O S L) (out : BatchValue) (rest : Option Waiting)
        → Stands meaning local_is shared_is g es infos stages queues rows seats failed count room capacity
        → Brings meaning local_is shared_is (record { given = g; history = es; room = room }) w n (fruit.Stream part out rest)
        → ((d : NodeInfo) → edge ≡ (slice_index_or infos (n - 1) d).first)
        → RestPut queues queues1 (edge - 1) rest → HasRoom queues1 n
    stream_room_out es infos stages queues queues1 rows seats failed count room capacity w n edge part out rest h b edge_at rest_put =
        let P = plan_of g in
        let s = state_after P es in
        let at = stream_places es infos stages queues rows seats failed count room capacity w n edge part out rest h b edge_at in
        let k = at.here in
        let t : Task (List Value) = record at.task { node = suc (n - 1) } in
        let waiting : ℕ → List (Batch (List Value)) = upd s.waiting (streams_from P (suc (n - 1))) (back P t ++ s.waiting (streams_from P (suc (n - 1)))) in
        let own : List (Batch (List Value)) = s.waiting (suc (n - 1)) ++ sent P t ∷ [] in
        let waits : (after P s (Deliver (suc (w - 1)))).waiting (suc (n - 1)) ≡ own = ap (λ (y : State (List Value)). y.waiting (suc (n - 1))) k.is ∙ upd-here waiting (suc (n - 1)) own in
        let long = ap (λ (xs : List (Batch (List Value))). length xs) waits in
        let more = length-append (s.waiting (suc (n - 1))) (sent P t ∷ []) in
        let all = h.stored.all_queues in
        let low = k.edge.1 in
        let within : edge - 1 < length queues = omega arith in
        let apart : n - 1 ≢ edge - 1 = λ y. k.apart (ap suc y) in
        let else = rest_else queues queues1 (edge - 1) (n - 1) rest t (back P t) (site_of g (suc (n - 1))).meaning.cuts (first_of (site_of g (suc (n - 1))).inputs) k.left rest_put within apart in
        let room_there : HasRoom queues n =
        subst (λ m. HasRoom queues m) at.at_node
        (room_on meaning local_is shared_is g es infos stages queues rows seats failed count room capacity (suc (w - 1)) (n - 1) t h at.brings.worker at.brings.flies k.own (omega arith)) in
        room_moved queues queues1 n room_there else.0 else.1
