-- What is stored after a delivery.
use Rattle.std.proofs.Common.{◌≡◌, ◌≢◌, ℕ, suc, ◌+◌, ◌-◌, ◌<◌, max, Bool, true, false, cond, ◌||◌, nat_eq, List, [], ◌∷◌, ◌++◌, length, Option, Some, None, refl, sym, ap, subst, ◌∙◌, inl, inr, arith, slice_index_or, slice_set}
use Rattle.std.proofs.lemmas.List.{length-set}
use Rattle.std.proofs.lemmas.Bool.Decides.{eqb_tells}
use Rattle.scalar_value.specs.declared.value.Value.{Value}
use Rattle.scalar_value.specs.declared.value.ColType.{ColType}
use Rattle.plan_machine.specs.declared.entry.Phase.{Phase}
use Rattle.plan_machine.specs.declared.entry.Phase.TheVariants.{Emitting, Folding, Streaming, Tailing, Sealed, Done}
use Rattle.plan_machine.specs.declared.entry.Entry.{Entry}
use Rattle.plan_machine.specs.declared.entry.Entry.TheVariants.{Deliver}
use Rattle.plan_machine.specs.Lists.{upd}
use Rattle.plan_machine.specs.Batch.{Batch}
use Rattle.plan_machine.specs.Plan.{Plan as MachinePlan, IsNode, IsWorker}
use Rattle.plan_machine.specs.State.{State, Task, opening}
use Rattle.plan_machine.specs.After.{after, delivered, landed, is_done}
use Rattle.plan_machine.specs.History.{IsHistory, state_after, peak}
use Rattle.plan_machine.proofs.Flight.{flying}
use Rattle.plan_nodes.specs.Operators.{OpMeaning}
use Rattle.task_work.specs.declared.work.Share.{Share}
use Rattle.plan_store.specs.declared.queue.Queue.{Queue}
use Rattle.plan_store.specs.declared.stage.Stage.{Stage}
use Rattle.plan_store.specs.declared.stage.NodeInfo.{NodeInfo}
use Rattle.plan_store.specs.declared.stage.Flight.{Flight}
use Rattle.plan_store.specs.Told.{Given, plan_of, site_of}
use Rattle.run_state.specs.Stored.{Held, StageIs, QueueIs, RowIs, is_live, goes_on, Stored, Stands}
use Rattle.plan_store.specs.Putting.{less_busy}
use Rattle.plan_store.specs.Putting.{IsDeparting}
use Rattle.run_state.proofs.Held.{held_set, held_map}
use Rattle.plan_store.proofs.At.{some_of}
use Rattle.run_state.proofs.Growing.{peak_covers, with_most, standing}
use Rattle.run_state.proofs.Seated.{seated}
use Rattle.run_state.proofs.Landing.{Tasks, seat_left, flying_left, row_left, flight_less, stages_landed}

stage_less : (P : MachinePlan (List Value)) (n : ℕ) (phase : Phase) (next : ℕ) (built : List (List Value)) (streamed : List (Batch (List Value))) (k k' : ℕ) (st : Stage)
    → k ≡ k' + 1 → StageIs P n phase next built streamed k st → StageIs P n phase next built streamed k' (less_busy st)
stage_less P n phase next built streamed k k' st less h =
    record { is_phase = h.is_phase; is_next = h.is_next; emits = h.emits; ends = h.ends; busy = let b = h.busy in omega arith }

pub site_workers : (g : Given) (n : ℕ) → (site_of g n).workers ≡ (plan_of g).workers
unfolding site_of
site_workers g n = refl

module _ {O S L : Type 0}
    (meaning : O → OpMeaning)
    (local_is : OpMeaning → List ColType → L → List (Batch (List Value)) → Type 0)
    (shared_is : OpMeaning → List (List ColType) → S → List (List Value) → List (Batch (List Value)) → Type 0)
    (g : Given)
  where
    abbrev pub Shares : Type 0
    Shares = List (List (Option (Share O S L)))

    -- the queues of all edges
    abbrev pub AllQueues : (waiting : ℕ → List (Batch (List Value))) (paused : ℕ → Bool) (most : ℕ → ℕ) (queues : List Queue) → Type 0
    AllQueues waiting paused most queues = Held (λ n q. QueueIs (site_of g n).columns (goes_on (plan_of g) n) ((plan_of g).pause + (plan_of g).workers) (waiting n) (paused n) (most n) q) queues

    abbrev pub RowAt : (n : ℕ) (failed : Bool) (phase : Phase) (locals : ℕ → List (Batch (List Value))) (built : List (List Value)) (streamed : List (Batch (List Value))) (tasks : Tasks) (row : List (Option (Share O S L))) → Type 0
    RowAt n failed phase locals built streamed tasks row = RowIs meaning local_is shared_is (site_of g n) (nat_eq n (plan_of g).sink) failed phase locals built streamed tasks n row

    abbrev pub AllRows : (failed : Bool) (phase : ℕ → Phase) (locals : ℕ → ℕ → List (Batch (List Value))) (built : ℕ → List (List Value)) (streamed : ℕ → List (Batch (List Value))) (tasks : Tasks) (rows : Shares) → Type 0
    AllRows failed phase locals built streamed tasks rows = Held (λ n row. RowAt n failed (phase n) (locals n) (built n) (streamed n) tasks row) rows

    -- what stays as it was at the other nodes
    pub record Others (s : State (List Value)) (phase : ℕ → Phase) (locals : ℕ → ℕ → List (Batch (List Value))) (built : ℕ → List (List Value)) (streamed : ℕ → List (Batch (List Value))) (a : ℕ) : Type 0 where
      pub phases : (n : ℕ) → n ≢ a → phase n ≡ s.phase n
      pub lists : (n : ℕ) → n ≢ a → locals n ≡ s.locals n
      pub builds : (n : ℕ) → n ≢ a → built n ≡ s.built n
      pub streams : (n : ℕ) → n ≢ a → streamed n ≡ s.streamed n

    -- the row of the task's node is written
    pub rows_landed : (s : State (List Value)) (phase : ℕ → Phase) (locals : ℕ → ℕ → List (Batch (List Value))) (built : ℕ → List (List Value)) (streamed : ℕ → List (Batch (List Value))) (w p : ℕ) (t : Task (List Value)) (rows : Shares) (row : List (Option (Share O S L)))
        → s.tasks w ≡ Some t → t.node ≡ suc p
        → Others s phase locals built streamed (suc p)
        → AllRows s.failed s.phase s.locals s.built s.streamed s.tasks rows
        → RowAt (suc p) s.failed (phase (suc p)) (locals (suc p)) (built (suc p)) (streamed (suc p)) (upd s.tasks w None) row
        → AllRows s.failed phase locals built streamed (upd s.tasks w None) (slice_set rows p row)
    rows_landed s phase locals built streamed w p t rows row busy here o h is =
        held_set (λ n x. RowAt n s.failed (s.phase n) (s.locals n) (s.built n) (s.streamed n) s.tasks x)
        (λ n x. RowAt n s.failed (phase n) (locals n) (built n) (streamed n) (upd s.tasks w None) x) rows p row h is
        (λ n x ne old.
        let left = row_left meaning local_is shared_is (site_of g n) (nat_eq n (plan_of g).sink) s.failed (s.phase n) (s.locals n) (s.built n) (s.streamed n) s.tasks w n t x busy (λ sound live e. ne (sym e ∙ here)) old in
        let a = subst (λ y. RowAt n s.failed y (s.locals n) (s.built n) (s.streamed n) (upd s.tasks w None) x) (sym (o.phases n ne)) left in
        let b = subst (λ y. RowAt n s.failed (phase n) y (s.built n) (s.streamed n) (upd s.tasks w None) x) (sym (o.lists n ne)) a in
        let c = subst (λ y. RowAt n s.failed (phase n) (locals n) y (s.streamed n) (upd s.tasks w None) x) (sym (o.builds n ne)) b in
        subst (λ y. RowAt n s.failed (phase n) (locals n) (built n) y (upd s.tasks w None) x) (sym (o.streams n ne)) c)

    -- what was stored, but for the parts that the delivery writes
    pub stored_landed : (s : State (List Value)) (phase : ℕ → Phase) (locals : ℕ → ℕ → List (Batch (List Value))) (built : ℕ → List (List Value)) (streamed folded waiting : ℕ → List (Batch (List Value))) (most most' : ℕ → ℕ) (infos : List NodeInfo) (stages : List Stage) (queues queues' : List Queue) (rows rows' : Shares) (seats : List (Option Flight)) (failed : Bool) (count count' q p : ℕ) (t : Task (List Value)) (st : Stage)
        → Stored meaning local_is shared_is g s most infos stages queues rows seats failed count
        → IsWorker (plan_of g) (suc q) → s.tasks (suc q) ≡ Some t → t.node ≡ suc p
        → Others s phase locals built streamed (suc p)
        → StageIs (plan_of g) (suc p) (phase (suc p)) (s.next (suc p)) (built (suc p)) (streamed (suc p)) (length (flying (plan_of g) (upd s.tasks (suc q) None) (suc p))) st
        → length rows' ≡ length rows → AllRows s.failed phase locals built streamed (upd s.tasks (suc q) None) rows'
        → length queues' ≡ length queues → AllQueues waiting s.paused most' queues'
        → count' ≡ count - 1
        → Stored meaning local_is shared_is g
        (record s { phase = phase; locals = locals; built = built; streamed = streamed; folded = folded; waiting = waiting; tasks = upd s.tasks (suc q) None })
        most' infos (slice_set stages p st) queues' rows' (slice_set seats q None) failed count'
    stored_landed s phase locals built streamed folded waiting most most' infos stages queues queues' rows rows' seats failed count count' q p t st h worker busy here o stage all_rows rows_are all_queues queues_are less =
        record {
          all_infos = h.all_infos;
          all_stages = length-set stages p st ∙ h.all_stages;
          all_queues = all_queues ∙ h.all_queues;
          all_rows = all_rows ∙ h.all_rows;
          all_seats = length-set seats q None ∙ h.all_seats;
          infos_are = h.infos_are;
          stages_are = stages_landed (plan_of g) s.phase phase s.next s.built built s.streamed streamed s.tasks (suc q) p t stages st busy here (λ n ne. (o.phases n ne, o.builds n ne, o.streams n ne)) h.stages_are stage;
          queues_are = queues_are;
          rows_are = rows_are;
          seats_are = seat_left s.tasks seats q h.seats_are;
          failed_is = h.failed_is;
          flying_is =
              let a = flying_left (plan_of g).workers (suc q) s.tasks t worker.0 worker.1 busy in
              let b = h.flying_is in
              omega arith;
        }

    -- a stage that keeps its phase, with one task less
    pub stage_landed : (s : State (List Value)) (stages : List Stage) (q p : ℕ) (t : Task (List Value)) (d : Stage)
        → IsWorker (plan_of g) (suc q) → s.tasks (suc q) ≡ Some t → t.node ≡ suc p → p < length stages
        → Held (λ n x. StageIs (plan_of g) n (s.phase n) (s.next n) (s.built n) (s.streamed n) (length (flying (plan_of g) s.tasks n)) x) stages
        → StageIs (plan_of g) (suc p) (s.phase (suc p)) (s.next (suc p)) (s.built (suc p)) (s.streamed (suc p)) (length (flying (plan_of g) (upd s.tasks (suc q) None) (suc p))) (less_busy (slice_index_or stages p d))
    stage_landed s stages q p t d worker busy here within h =
        stage_less (plan_of g) (suc p) (s.phase (suc p)) (s.next (suc p)) (s.built (suc p)) (s.streamed (suc p)) _ _ (slice_index_or stages p d)
        (flight_less (plan_of g) s.tasks (suc q) (suc p) t worker busy here) (h p d within)

    -- what there is of a task in flight
    departing_at : (es : List Entry) (infos : List NodeInfo) (stages : List Stage) (queues : List Queue) (rows : Shares) (seats : List (Option Flight)) (failed : Bool) (count room capacity q p : ℕ) (t : Task (List Value))
        → Stands meaning local_is shared_is g es infos stages queues rows seats failed count room capacity
        → IsWorker (plan_of g) (suc q) → (state_after (plan_of g) es).tasks (suc q) ≡ Some t → t.node ≡ suc p
        → IsDeparting seats stages count (length es) capacity (suc q) (suc p)
    departing_at es infos stages queues rows seats failed count room capacity q p t h worker busy here =
        let s = state_after (plan_of g) es in
        let node : IsNode (plan_of g) (suc p) = subst (λ n. IsNode (plan_of g) n) here ((seated (plan_of g) es h.legal).at_node (suc q) t busy) in
        let at_least = flying_left (plan_of g).workers (suc q) s.tasks t worker.0 worker.1 busy in
        let one = h.stored.flying_is in
        let all = h.stored.all_seats in
        let all' = h.stored.all_stages in
        let fits = h.fits in
        let upper = worker.1 in
        let upper' = node.1 in
        let within : p < length stages = omega arith in
        record {
          workers = omega arith;
          nodes = omega arith;
          seat = omega arith;
          place = omega arith;
          busy = λ d.
              let b = (h.stored.stages_are p d within).busy in
              let less = flight_less (plan_of g) s.tasks (suc q) (suc p) t worker busy here in
              let at : suc p - 1 ≡ p = omega arith in
              subst (λ k. 0 < (slice_index_or stages k d).busy) (sym at) (omega arith);
          flies = omega arith;
          room = omega arith;
        }

    pub departing : (es : List Entry) (infos : List NodeInfo) (stages : List Stage) (queues : List Queue) (rows : Shares) (seats : List (Option Flight)) (failed : Bool) (count room capacity w n : ℕ) (t : Task (List Value))
        → Stands meaning local_is shared_is g es infos stages queues rows seats failed count room capacity
        → IsWorker (plan_of g) w → (state_after (plan_of g) es).tasks w ≡ Some t → t.node ≡ n
        → IsDeparting seats stages count (length es) capacity w n
    departing es infos stages queues rows seats failed count room capacity w n t h worker busy here =
        let node : IsNode (plan_of g) n = subst (λ k. IsNode (plan_of g) k) here ((seated (plan_of g) es h.legal).at_node w t busy) in
        let low = worker.0 in
        let low' = node.0 in
        let at : suc (w - 1) ≡ w = omega arith in
        let at' : suc (n - 1) ≡ n = omega arith in
        subst (λ v. IsDeparting seats stages count (length es) capacity v n) at
        (subst (λ k. IsDeparting seats stages count (length es) capacity (suc (w - 1)) k) at'
        (departing_at es infos stages queues rows seats failed count room capacity (w - 1) (n - 1) t h
        (subst (λ v. IsWorker (plan_of g) v) (sym at) worker)
        (ap (state_after (plan_of g) es).tasks at ∙ busy) (here ∙ sym at')))

    -- the peak of an edge, with what waits there now
    abbrev pub peaks : List Entry → ℕ → ℕ
    peaks es e = peak (plan_of g) e es (opening (plan_of g))

    -- where no batch came, the peaks stay
    pub peak_stays : (es : List Entry) (e : ℕ) → peaks es e ≡ max (peaks es e) (length ((state_after (plan_of g) es).waiting e))
    peak_stays es e = let h = peak_covers (plan_of g) es (opening (plan_of g)) e in omega arith

    -- the history with the delivery, where the state after it is s'
    pub delivered_stands : (es : List Entry) (w : ℕ) (t : Task (List Value)) (s' : State (List Value)) (infos : List NodeInfo) (stages stages' : List Stage) (queues queues' : List Queue) (rows rows' : Shares) (seats seats' : List (Option Flight)) (failed : Bool) (count count' room capacity capacity' : ℕ)
        → Stands meaning local_is shared_is g es infos stages queues rows seats failed count room capacity
        → IsWorker (plan_of g) w → (state_after (plan_of g) es).tasks w ≡ Some t
        → after (plan_of g) (state_after (plan_of g) es) (Deliver w) ≡ s'
        → Stored meaning local_is shared_is g s' (λ e. max (peaks es e) (length (s'.waiting e))) infos stages' queues' rows' seats' failed count'
        → 0 < count → count' ≡ count - 1 → capacity' ≡ capacity
        → Stands meaning local_is shared_is g (es ++ Deliver w ∷ []) infos stages' queues' rows' seats' failed count' room capacity'
    delivered_stands es w t s' infos stages stages' queues queues' rows rows' seats seats' failed count count' room capacity capacity' h worker busy is st some less same =
        standing meaning local_is shared_is g es (Deliver w) infos infos stages stages' queues queues' rows rows' seats seats' failed failed count count' room room capacity capacity' h
        (worker, (t, busy))
        (subst (λ (x : State (List Value)). Stored meaning local_is shared_is g x (λ e. max (peaks es e) (length (x.waiting e))) infos stages' queues' rows' seats' failed count') (sym is) st)
        (let f = h.fits in omega arith)

    -- ---- a dropped delivery

    after_dropped : (es : List Entry) (w n : ℕ) (t : Task (List Value)) → (state_after (plan_of g) es).tasks w ≡ Some t → t.node ≡ n
        → ((state_after (plan_of g) es).failed || is_done ((state_after (plan_of g) es).phase n)) ≡ true
        → after (plan_of g) (state_after (plan_of g) es) (Deliver w) ≡ record (state_after (plan_of g) es) { tasks = upd (state_after (plan_of g) es).tasks w None }
    unfolding after
    after_dropped es w n t busy here dropped =
        let s = state_after (plan_of g) es in
        ap (delivered (plan_of g) s w) busy
        ∙ ap (λ (b : Bool). cond b (record s { tasks = upd s.tasks w None }) (landed (plan_of g) s w t t.job)) (ap (λ (k : ℕ). s.failed || is_done (s.phase k)) here ∙ dropped)

    -- a node that is Done is not looked at, but for the sink
    live_done : (n : ℕ) (phase : Phase) → is_done phase ≡ true → is_live meaning local_is shared_is (nat_eq n (plan_of g).sink) phase ≡ true → (phase ≡ Done) × (n ≡ (plan_of g).sink)
    live_done n Emitting done live = cc
    live_done n Folding done live = cc
    live_done n Streaming done live = cc
    live_done n Tailing done live = cc
    live_done n Sealed done live = cc
    live_done n Done done live = (refl, elim (eqb_tells n (plan_of g).sink) [ inl e ↦ e.1 | inr e ↦ let m = e.0 in cc ])

    dropped_apart : (es : List Entry) (w n m : ℕ) (t : Task (List Value)) → IsHistory (plan_of g) es → (state_after (plan_of g) es).tasks w ≡ Some t → t.node ≡ n
        → ((state_after (plan_of g) es).failed || is_done ((state_after (plan_of g) es).phase n)) ≡ true
        → (state_after (plan_of g) es).failed ≡ false → is_live meaning local_is shared_is (nat_eq m (plan_of g).sink) ((state_after (plan_of g) es).phase m) ≡ true → t.node ≢ m
    dropped_apart es w n m t legal busy here dropped sound live e =
        let s = state_after (plan_of g) es in
        let done : is_done (s.phase m) ≡ true = ap (λ (k : ℕ). is_done (s.phase k)) (sym e ∙ here) ∙ (sym (ap (λ (b : Bool). b || is_done (s.phase n)) sound) ∙ dropped) in
        let d = live_done m (s.phase m) done live in
        (seated (plan_of g) es legal).open_sink w t busy (e ∙ d.1) (ap s.phase (sym d.1) ∙ d.0)

    drop_at : (es : List Entry) (infos : List NodeInfo) (stages stages' : List Stage) (queues : List Queue) (rows : Shares) (seats seats' : List (Option Flight)) (failed : Bool) (count count' room capacity capacity' q p : ℕ) (t : Task (List Value))
        → Stands meaning local_is shared_is g es infos stages queues rows seats failed count room capacity
        → IsWorker (plan_of g) (suc q) → (state_after (plan_of g) es).tasks (suc q) ≡ Some t → t.node ≡ suc p
        → ((state_after (plan_of g) es).failed || is_done ((state_after (plan_of g) es).phase (suc p))) ≡ true
        → seats' ≡ slice_set seats q None
        → ((d : Stage) → stages' ≡ slice_set stages p (less_busy (slice_index_or stages p d)))
        → count' ≡ count - 1 → capacity' ≡ capacity
        → Stands meaning local_is shared_is g (es ++ Deliver (suc q) ∷ []) infos stages' queues rows seats' failed count' room capacity'
    drop_at es infos stages stages' queues rows seats seats' failed count count' room capacity capacity' q p t h worker busy here dropped seats_set stages_set less same =
        let s = state_after (plan_of g) es in
        let ready = departing_at es infos stages queues rows seats failed count room capacity q p t h worker busy here in
        let within : p < length stages = let place = ready.place in omega arith in
        let d = some_of p stages within in
        subst (λ xs. Stands meaning local_is shared_is g (es ++ Deliver (suc q) ∷ []) infos xs queues rows seats' failed count' room capacity') (sym (stages_set d))
        (subst (λ xs. Stands meaning local_is shared_is g (es ++ Deliver (suc q) ∷ []) infos (slice_set stages p (less_busy (slice_index_or stages p d))) queues rows xs failed count' room capacity') (sym seats_set)
        (delivered_stands es (suc q) t (record s { tasks = upd s.tasks (suc q) None }) infos stages (slice_set stages p (less_busy (slice_index_or stages p d))) queues queues rows rows seats (slice_set seats q None) failed count count' room capacity capacity' h worker busy
        (after_dropped es (suc q) (suc p) t busy here dropped)
        (stored_landed s s.phase s.locals s.built s.streamed s.folded s.waiting (peaks es) _ infos stages queues queues rows rows seats failed count count' q p t (less_busy (slice_index_or stages p d)) h.stored worker busy here
        (record { phases = λ n ne. refl; lists = λ n ne. refl; builds = λ n ne. refl; streams = λ n ne. refl })
        (stage_landed s stages q p t d worker busy here within h.stored.stages_are)
        refl
        (held_map (λ n x. RowAt n s.failed (s.phase n) (s.locals n) (s.built n) (s.streamed n) s.tasks x)
        (λ n x. RowAt n s.failed (s.phase n) (s.locals n) (s.built n) (s.streamed n) (upd s.tasks (suc q) None) x) rows h.stored.rows_are
        (λ n x old. row_left meaning local_is shared_is (site_of g n) (nat_eq n (plan_of g).sink) s.failed (s.phase n) (s.locals n) (s.built n) (s.streamed n) s.tasks (suc q) n t x busy (λ sound live. dropped_apart es (suc q) (suc p) n t h.legal busy here dropped sound live) old))
        refl
        (with_most meaning local_is shared_is g s (peaks es) (λ e. max (peaks es e) (length (s.waiting e))) infos stages queues rows seats failed count (peak_stays es) h.stored).queues_are
        less)
        ready.flies less same))

    pub after_drop : (es : List Entry) (infos : List NodeInfo) (stages stages' : List Stage) (queues : List Queue) (rows : Shares) (seats seats' : List (Option Flight)) (failed : Bool) (count count' room capacity capacity' w n : ℕ) (t : Task (List Value))
        → Stands meaning local_is shared_is g es infos stages queues rows seats failed count room capacity
        → IsWorker (plan_of g) w → (state_after (plan_of g) es).tasks w ≡ Some t → t.node ≡ n
        → ((state_after (plan_of g) es).failed || is_done ((state_after (plan_of g) es).phase n)) ≡ true
        → seats' ≡ slice_set seats (w - 1) None
        → ((d : Stage) → stages' ≡ slice_set stages (n - 1) (less_busy (slice_index_or stages (n - 1) d)))
        → count' ≡ count - 1 → capacity' ≡ capacity
        → Stands meaning local_is shared_is g (es ++ Deliver w ∷ []) infos stages' queues rows seats' failed count' room capacity'
    after_drop es infos stages stages' queues rows seats seats' failed count count' room capacity capacity' w n t h worker busy here dropped seats_set stages_set less same =
        let node : IsNode (plan_of g) n = subst (λ k. IsNode (plan_of g) k) here ((seated (plan_of g) es h.legal).at_node w t busy) in
        let low = worker.0 in
        let low' = node.0 in
        let at : suc (w - 1) ≡ w = omega arith in
        let at' : suc (n - 1) ≡ n = omega arith in
        subst (λ v. Stands meaning local_is shared_is g (es ++ Deliver v ∷ []) infos stages' queues rows seats' failed count' room capacity') at
        (drop_at es infos stages stages' queues rows seats seats' failed count count' room capacity capacity' (w - 1) (n - 1) t h
        (subst (λ v. IsWorker (plan_of g) v) (sym at) worker)
        (ap (state_after (plan_of g) es).tasks at ∙ busy) (here ∙ sym at')
        (subst (λ k. ((state_after (plan_of g) es).failed || is_done ((state_after (plan_of g) es).phase k)) ≡ true) (sym at') dropped)
        seats_set stages_set less same)

    -- whether a delivery is dropped, by what is stored
    pub drops_by : (es : List Entry) (infos : List NodeInfo) (stages : List Stage) (queues : List Queue) (rows : Shares) (seats : List (Option Flight)) (failed : Bool) (count room capacity w n : ℕ) (t : Task (List Value))
        → Stands meaning local_is shared_is g es infos stages queues rows seats failed count room capacity
        → (state_after (plan_of g) es).tasks w ≡ Some t → t.node ≡ n
        → IsNode (plan_of g) n × (n - 1 < length stages) × ((d : Stage) → (slice_index_or stages (n - 1) d).phase ≡ (state_after (plan_of g) es).phase n)
    drops_by es infos stages queues rows seats failed count room capacity w n t h busy here =
        let node : IsNode (plan_of g) n = subst (λ k. IsNode (plan_of g) k) here ((seated (plan_of g) es h.legal).at_node w t busy) in
        let low = node.0 in
        let upper = node.1 in
        let all = h.stored.all_stages in
        let at : suc (n - 1) ≡ n = omega arith in
        let within : n - 1 < length stages = omega arith in
        (node, within, λ d. (h.stored.stages_are (n - 1) d within).is_phase ∙ ap (state_after (plan_of g) es).phase at)
