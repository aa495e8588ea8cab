-- What is known of a task whose delivery lands, and what is stored once its share is put back.
use Rattle.std.proofs.Common.{◌≡◌, ◌≢◌, ℕ, suc, ◌-◌, ◌<◌, max, Bool, true, false, cond, ◌||◌, nat_eq, List, [], ◌∷◌, ◌++◌, length, Option, Some, None, refl, sym, ap, subst, ◌∙◌, inl, inr, arith, slice_index_or, slice_set}
use Rattle.std.proofs.lemmas.List.{length-set}
use Rattle.scalar_value.specs.declared.value.Value.{Value}
use Rattle.scalar_value.specs.declared.value.ColType.{ColType}
use Rattle.plan_machine.specs.declared.entry.Job.{Job}
use Rattle.plan_machine.specs.declared.entry.Job.TheVariants.{Emit, Fold, Seal, Stream, Close, Tail}
use Rattle.plan_machine.specs.declared.entry.Entry.{Entry}
use Rattle.plan_machine.specs.declared.entry.Entry.TheVariants.{Deliver}
use Rattle.plan_machine.specs.Lists.{upd, weigh}
use Rattle.plan_machine.specs.Batch.{Batch}
use Rattle.plan_machine.specs.Plan.{Plan as MachinePlan, IsNode, IsWorker}
use Rattle.plan_machine.specs.State.{State, Task, tasks_at}
use Rattle.plan_machine.specs.InFlight.{phase_of, TaskFits}
use Rattle.plan_machine.specs.After.{after, delivered, landed, is_done}
use Rattle.plan_machine.specs.History.{IsHistory, state_after}
use Rattle.plan_machine.specs.WellFormed.{Lawful, WellFormed}
use Rattle.plan_machine.proofs.Kept.{fitting}
use Rattle.plan_machine.proofs.Flight.{flying-has}
use Rattle.plan_nodes.specs.Operators.{OpMeaning}
use Rattle.task_work.specs.declared.work.Share.{Share}
use Rattle.plan_store.specs.declared.queue.Queue.{Queue}
use Rattle.plan_store.specs.declared.stage.Stage.{Stage}
use Rattle.plan_store.specs.declared.stage.NodeInfo.{NodeInfo}
use Rattle.plan_store.specs.declared.stage.Flight.{Flight}
use Rattle.plan_store.specs.Told.{Given, plan_of, site_of}
use Rattle.run_state.specs.Stored.{PartStands, is_live, takes_all, AllAway, Stands}
use Rattle.plan_store.specs.Putting.{less_busy}
use Rattle.plan_store.specs.Putting.{HasSeat}
use Rattle.plan_store.proofs.At.{some_of}
use Rattle.run_state.proofs.Known.{known}
use Rattle.run_state.proofs.Seated.{seated}
use Rattle.run_state.proofs.Landing.{row_put, row_full}
use Rattle.run_state.proofs.Delivering.{AllQueues, RowAt, Others, peaks, site_workers, rows_landed, stored_landed, stage_landed, departing, delivered_stands}

job_goes_on : (j : Job) → is_done (phase_of j) ≡ false
job_goes_on Emit = refl
job_goes_on Fold = refl
job_goes_on Seal = refl
job_goes_on Stream = refl
job_goes_on Close = refl
job_goes_on Tail = refl

module _ {R : Type 0} (P : MachinePlan R) where
  lone : (s : State R) (n w : ℕ) (t : Task R) (j : Job) → takes_all j ≡ true → TaskFits P s n w t j → tasks_at P s n ≡ t ∷ []
  lone s n w t Emit all f = cc
  lone s n w t Fold all f = cc
  lone s n w t Seal all f = f.0
  lone s n w t Stream all f = cc
  lone s n w t Close all f = f.0
  lone s n w t Tail all f = cc

  -- what is known of a task whose delivery lands
  pub record Lands (s : State R) (w n : ℕ) (t : Task R) : Type 0 where
    pub sound : s.failed ≡ false
    pub phase : s.phase n ≡ phase_of t.job
    pub fits : TaskFits P s n w t t.job
    pub built : t.built ≡ s.built n
    pub streamed : t.streamed ≡ s.streamed n

  neither : (a b : Bool) → (a || b) ≡ false → (a ≡ false) × (b ≡ false)
  neither true b e = cc
  neither false b e = (refl, e)

  pub lands : Lawful P → WellFormed P → (es : List Entry) → IsHistory P es → (w n : ℕ) (t : Task R) → IsWorker P w → (state_after P es).tasks w ≡ Some t → t.node ≡ n
      → ((state_after P es).failed || is_done ((state_after P es).phase n)) ≡ false
      → Lands (state_after P es) w n t
  lands L W es legal w n t worker busy here kept =
      let s = state_after P es in
      let no = neither s.failed (is_done (s.phase n)) kept in
      let fit = fitting R P L W es legal no.0 w t worker busy in
      let k = (known P L W es legal no.0).tasks w t worker busy (ap (λ (m : ℕ). is_done (s.phase m)) here ∙ no.1) in
      elim fit.1 [
        | inl done ↦ let m = ap is_done (ap s.phase (sym here) ∙ done) in absurd (let x = no.1 in cc)
        | inr f ↦ record {
          sound = no.0;
          phase = ap s.phase (sym here) ∙ f.0;
          fits = subst (λ (m : ℕ). TaskFits P s m w t t.job) here f.1;
          built = k.0 ∙ ap s.built here;
          streamed = k.1 ∙ ap s.streamed here;
        }
      ]

-- no other worker has taken all shares of its node, where it took but its own
pub none_took_all : (P : MachinePlan (List Value)) → Lawful P → WellFormed P → (es : List Entry) → IsHistory P es → (w n : ℕ) (t : Task (List Value)) → IsWorker P w → (state_after P es).tasks w ≡ Some t → t.node ≡ n
    → Lands P (state_after P es) w n t → takes_all t.job ≡ false → AllAway (state_after P es).tasks n → ⊥
none_took_all P L W es legal w n t worker busy here k own (v, u, is, at, all) =
    let s = state_after P es in
    let of_worker = (seated P es legal).of_worker v u is in
    let fit = fitting (List Value) P L W es legal k.sound v u of_worker is in
    elim fit.1 [
      | inl done ↦ let a = ap is_done (sym k.phase ∙ ap s.phase (sym at) ∙ done) in let b = job_goes_on t.job in cc
      | inr f ↦
          let one : tasks_at P s n ≡ u ∷ [] = lone P s n v u u.job all (subst (λ (m : ℕ). TaskFits P s m v u u.job) at f.1) in
          let h : Task (List Value) → ℕ = λ x. cond (takes_all x.job) 0 1 in
          let has = flying-has P h s.tasks w t n worker busy here in
          let a = ap (weigh h) one in
          let b = ap (λ (c : Bool). cond {A = ℕ} c 0 1) all in
          let d = ap (λ (c : Bool). cond {A = ℕ} c 0 1) own in
          absurd (omega arith)
    ]

module _ {O S L : Type 0}
    (meaning : O → OpMeaning)
    (local_is : OpMeaning → List ColType → L → List (Batch (List Value)) → Type 0)
    (shared_is : OpMeaning → List (List ColType) → S → List (List Value) → List (Batch (List Value)) → Type 0)
    (g : Given)
  where
    job_lives : (last : Bool) (j : Job) → is_live meaning local_is shared_is last (phase_of j) ≡ true
    job_lives last Emit = refl
    job_lives last Fold = refl
    job_lives last Seal = refl
    job_lives last Stream = refl
    job_lives last Close = refl
    job_lives last Tail = refl

    -- the row of the node has a share for each worker
    full_at : (es : List Entry) (infos : List NodeInfo) (stages : List Stage) (queues : List Queue) (rows : List (List (Option (Share O S L)))) (seats : List (Option Flight)) (failed : Bool) (count room capacity w p : ℕ) (t : Task (List Value)) (d : List (Option (Share O S L)))
        → Stands meaning local_is shared_is g es infos stages queues rows seats failed count room capacity
        → IsWorker (plan_of g) w → (state_after (plan_of g) es).tasks w ≡ Some t → t.node ≡ suc p → p < length rows
        → Lands (plan_of g) (state_after (plan_of g) es) w (suc p) t → takes_all t.job ≡ false
        → length (slice_index_or rows p d) ≡ (site_of g (suc p)).workers
    full_at es infos stages queues rows seats failed count room capacity w p t d h worker busy here within k own =
        let s = state_after (plan_of g) es in
        row_full meaning local_is shared_is (site_of g (suc p)) (nat_eq (suc p) (plan_of g).sink) s.failed (s.phase (suc p)) (s.locals (suc p)) (s.built (suc p)) (s.streamed (suc p)) s.tasks (suc p) (slice_index_or rows p d)
        k.sound (ap (is_live meaning local_is shared_is (nat_eq (suc p) (plan_of g).sink)) k.phase ∙ job_lives (nat_eq (suc p) (plan_of g).sink) t.job)
        (none_took_all (plan_of g) h.lawful h.well es h.legal w (suc p) t worker busy here k own)
        (h.stored.rows_are p d within)

    has_seat_at : (es : List Entry) (infos : List NodeInfo) (stages : List Stage) (queues : List Queue) (rows : List (List (Option (Share O S L)))) (seats : List (Option Flight)) (failed : Bool) (count room capacity q p : ℕ) (t : Task (List Value))
        → Stands meaning local_is shared_is g es infos stages queues rows seats failed count room capacity
        → IsWorker (plan_of g) (suc q) → (state_after (plan_of g) es).tasks (suc q) ≡ Some t → t.node ≡ suc p
        → ((state_after (plan_of g) es).failed || is_done ((state_after (plan_of g) es).phase (suc p))) ≡ false → takes_all t.job ≡ false
        → HasSeat rows (suc q) (suc p)
    has_seat_at es infos stages queues rows seats failed count room capacity q p t h worker busy here kept own =
        let node : IsNode (plan_of g) (suc p) = subst (λ n. IsNode (plan_of g) n) here ((seated (plan_of g) es h.legal).at_node (suc q) t busy) in
        let k = lands (plan_of g) h.lawful h.well es h.legal (suc q) (suc p) t worker busy here kept in
        let all = h.stored.all_rows in
        let upper = node.1 in
        let within : p < length rows = omega arith in
        let at : suc p - 1 ≡ p = omega arith in
        record {
          workers = omega arith;
          nodes = omega arith;
          place = omega arith;
          seat = λ d.
              let full = full_at es infos stages queues rows seats failed count room capacity (suc q) p t d h worker busy here within k own in
              let same = site_workers g (suc p) in
              let most = worker.1 in
              subst (λ m. suc q - 1 < length (slice_index_or rows m d)) (sym at) (omega arith);
        }

    pub has_seat : (es : List Entry) (infos : List NodeInfo) (stages : List Stage) (queues : List Queue) (rows : List (List (Option (Share O S L)))) (seats : List (Option Flight)) (failed : Bool) (count room capacity w n : ℕ) (t : Task (List Value))
        → Stands meaning local_is shared_is g es infos stages queues rows seats failed count room capacity
        → IsWorker (plan_of g) w → (state_after (plan_of g) es).tasks w ≡ Some t → t.node ≡ n
        → ((state_after (plan_of g) es).failed || is_done ((state_after (plan_of g) es).phase n)) ≡ false → takes_all t.job ≡ false
        → HasSeat rows w n
    has_seat es infos stages queues rows seats failed count room capacity w n t h worker busy here kept own =
        let node : IsNode (plan_of g) n = subst (λ k. IsNode (plan_of g) k) here ((seated (plan_of g) es h.legal).at_node w t busy) in
        let low = worker.0 in
        let low' = node.0 in
        let at : suc (w - 1) ≡ w = omega arith in
        let at' : suc (n - 1) ≡ n = omega arith in
        subst (λ v. HasSeat rows v n) at
        (subst (λ k. HasSeat rows (suc (w - 1)) k) at'
        (has_seat_at es infos stages queues rows seats failed count room capacity (w - 1) (n - 1) t h
        (subst (λ v. IsWorker (plan_of g) v) (sym at) worker)
        (ap (state_after (plan_of g) es).tasks at ∙ busy) (here ∙ sym at')
        (subst (λ k. ((state_after (plan_of g) es).failed || is_done ((state_after (plan_of g) es).phase k)) ≡ false) (sym at') kept) own))

    -- a delivery that lands
    pub after_landed : (es : List Entry) (w n : ℕ) (t : Task (List Value)) → (state_after (plan_of g) es).tasks w ≡ Some t → t.node ≡ n
        → ((state_after (plan_of g) es).failed || is_done ((state_after (plan_of g) es).phase n)) ≡ false
        → after (plan_of g) (state_after (plan_of g) es) (Deliver w) ≡ landed (plan_of g) (state_after (plan_of g) es) w t t.job
    unfolding after
    after_landed es w n t busy here kept =
        let s = state_after (plan_of g) es in
        ap (delivered (plan_of g) s w) busy
        ∙ ap (λ (b : Bool). cond b (record s { tasks = upd s.tasks w None }) (landed (plan_of g) s w t t.job)) (ap (λ (k : ℕ). s.failed || is_done (s.phase k)) here ∙ kept)

    -- the worker's share is put back, and batches on queues
    pub put_at : (es : List Entry) (locals : ℕ → ℕ → List (Batch (List Value))) (folded waiting : ℕ → List (Batch (List Value))) (infos : List NodeInfo) (stages stages' : List Stage) (queues queues' : List Queue) (rows rows' : List (List (Option (Share O S L)))) (seats seats' : List (Option Flight)) (failed : Bool) (count count' room capacity capacity' q p : ℕ) (t : Task (List Value)) (share : Share O S L)
        → Stands meaning local_is shared_is g es infos stages queues rows seats failed count room capacity
        → IsWorker (plan_of g) (suc q) → (state_after (plan_of g) es).tasks (suc q) ≡ Some t → t.node ≡ suc p
        → Lands (plan_of g) (state_after (plan_of g) es) (suc q) (suc p) t → takes_all t.job ≡ false
        → after (plan_of g) (state_after (plan_of g) es) (Deliver (suc q)) ≡ record (state_after (plan_of g) es) { locals = locals; folded = folded; waiting = waiting; tasks = upd (state_after (plan_of g) es).tasks (suc q) None }
        → ((n : ℕ) → n ≢ suc p → locals n ≡ (state_after (plan_of g) es).locals n)
        → ((k : ℕ) → k ≢ q → locals (suc p) (suc k) ≡ (state_after (plan_of g) es).locals (suc p) (suc k))
        → PartStands meaning local_is shared_is (site_of g (suc p)) (nat_eq (suc p) (plan_of g).sink) (phase_of t.job) (locals (suc p) (suc q)) t.built t.streamed share
        → length queues' ≡ length queues → AllQueues meaning local_is shared_is g waiting (state_after (plan_of g) es).paused (λ e. max (peaks meaning local_is shared_is g es e) (length (waiting e))) queues'
        → seats' ≡ slice_set seats q None
        → ((d : Stage) → stages' ≡ slice_set stages p (less_busy (slice_index_or stages p d)))
        → ((d : List (Option (Share O S L))) → rows' ≡ slice_set rows p (slice_set (slice_index_or rows p d) q (Some share)))
        → count' ≡ count - 1 → capacity' ≡ capacity
        → Stands meaning local_is shared_is g (es ++ Deliver (suc q) ∷ []) infos stages' queues' rows' seats' failed count' room capacity'
    put_at es locals folded waiting infos stages stages' queues queues' rows rows' seats seats' failed count count' room capacity capacity' q p t share h worker busy here k own is lists_else list_else part all_queues queues_are seats_set stages_set rows_set less same =
        let s = state_after (plan_of g) es in
        let ready = departing meaning local_is shared_is g es infos stages queues rows seats failed count room capacity (suc q) (suc p) t h worker busy here in
        let within : p < length stages = let place = ready.place in omega arith in
        let within_rows : p < length rows = let a = h.stored.all_rows in let b = h.stored.all_stages in omega arith in
        let d = some_of p stages within in
        let e = some_of p rows within_rows in
        let st' : Stage = less_busy (slice_index_or stages p d) in
        let row : List (Option (Share O S L)) = slice_index_or rows p e in
        let row' : List (Option (Share O S L)) = slice_set row q (Some share) in
        let full = full_at es infos stages queues rows seats failed count room capacity (suc q) p t e h worker busy here within_rows k own in
        let at_seat : q < (site_of g (suc p)).workers = let w = site_workers g (suc p) in let most = worker.1 in omega arith in
        let last = nat_eq (suc p) (plan_of g).sink in
        let stands : PartStands meaning local_is shared_is (site_of g (suc p)) last (s.phase (suc p)) (locals (suc p) (suc q)) (s.built (suc p)) (s.streamed (suc p)) share =
        subst (λ x. PartStands meaning local_is shared_is (site_of g (suc p)) last x (locals (suc p) (suc q)) (s.built (suc p)) (s.streamed (suc p)) share) (sym k.phase)
        (subst (λ x. PartStands meaning local_is shared_is (site_of g (suc p)) last (phase_of t.job) (locals (suc p) (suc q)) x (s.streamed (suc p)) share) k.built
        (subst (λ x. PartStands meaning local_is shared_is (site_of g (suc p)) last (phase_of t.job) (locals (suc p) (suc q)) t.built x share) k.streamed part)) in
        let placed : RowAt meaning local_is shared_is g (suc p) s.failed (s.phase (suc p)) (locals (suc p)) (s.built (suc p)) (s.streamed (suc p)) (upd s.tasks (suc q) None) row' =
        row_put meaning local_is shared_is (site_of g (suc p)) last s.failed (s.phase (suc p)) (s.locals (suc p)) (locals (suc p)) (s.built (suc p)) (s.streamed (suc p)) s.tasks q (suc p) t row share full at_seat busy own list_else stands (h.stored.rows_are p e within_rows) in
        let o : Others meaning local_is shared_is g s s.phase locals s.built s.streamed (suc p) = record { phases = λ n ne. refl; lists = lists_else; builds = λ n ne. refl; streams = λ n ne. refl } in
        subst (λ xs. Stands meaning local_is shared_is g (es ++ Deliver (suc q) ∷ []) infos xs queues' rows' seats' failed count' room capacity') (sym (stages_set d))
        (subst (λ xs. Stands meaning local_is shared_is g (es ++ Deliver (suc q) ∷ []) infos (slice_set stages p st') queues' rows' xs failed count' room capacity') (sym seats_set)
        (subst (λ xs. Stands meaning local_is shared_is g (es ++ Deliver (suc q) ∷ []) infos (slice_set stages p st') queues' xs (slice_set seats q None) failed count' room capacity') (sym (rows_set e))
        (delivered_stands meaning local_is shared_is g es (suc q) t (record s { locals = locals; folded = folded; waiting = waiting; tasks = upd s.tasks (suc q) None }) infos stages (slice_set stages p st') queues queues' rows (slice_set rows p row') seats (slice_set seats q None) failed count count' room capacity capacity' h worker busy
        is
        (stored_landed meaning local_is shared_is g s s.phase locals s.built s.streamed folded waiting (peaks meaning local_is shared_is g es) _ infos stages queues queues' rows (slice_set rows p row') seats failed count count' q p t st' h.stored worker busy here o
        (stage_landed meaning local_is shared_is g s stages q p t d worker busy here within h.stored.stages_are)
        (length-set rows p row')
        (rows_landed meaning local_is shared_is g s s.phase locals s.built s.streamed (suc q) p t rows row' busy here o h.stored.rows_are placed)
        all_queues queues_are less)
        ready.flies less same)))
