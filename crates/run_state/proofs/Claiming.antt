-- What is stored where a claim is enabled, and once it was made.
use Rattle.std.proofs.Common.{◌≡◌, ◌≢◌, ℕ, zero, suc, ◌+◌, ◌-◌, ◌^◌, ◌<◌, ◌≤◌, Bool, true, false, cond, nat_eq, List, [], ◌∷◌, ◌++◌, length, map, Option, Some, None, refl, sym, ap, subst, ◌∙◌, ◌⊎◌, inl, inr, arith, slice_index_or, slice_set}
use Rattle.std.proofs.lemmas.List.{length-set, length-append}
use Rattle.scalar_value.specs.declared.value.Value.{Value}
use Rattle.scalar_value.specs.declared.value.ColType.{ColType}
use Rattle.plan_machine.specs.declared.entry.Phase.{Phase}
use Rattle.plan_machine.specs.declared.entry.Job.{Job}
use Rattle.plan_machine.specs.declared.entry.Job.TheVariants.{Emit, Fold, Seal, Stream, Close, Tail}
use Rattle.plan_machine.specs.declared.entry.Entry.{Entry}
use Rattle.plan_machine.specs.declared.entry.Entry.TheVariants.{Claim}
use Rattle.plan_machine.specs.Lists.{upd, at_or, without, gather}
use Rattle.plan_machine.specs.Batch.{Batch, blank}
use Rattle.plan_machine.specs.Plan.{Plan as MachinePlan}
use Rattle.plan_machine.specs.State.{State, Task, tasks_at, on_node, opening}
use Rattle.plan_machine.specs.Enabled.{Enabled, CanDo}
use Rattle.plan_machine.specs.InFlight.{phase_of, TaskFits}
use Rattle.plan_machine.specs.After.{after, claimed, task_of}
use Rattle.plan_machine.specs.History.{state_after, peak}
use Rattle.plan_machine.proofs.Kept.{fitting}
use Rattle.plan_machine.proofs.Weigh.{upd-here, upd-else, same_or}
use Rattle.plan_machine.proofs.Sums.{sum_ones}
use Rattle.plan_nodes.specs.Operators.{OpMeaning}
use Rattle.task_work.specs.Sites.{Site}
use Rattle.task_work.specs.declared.work.Share.{Share}
use Rattle.task_work.specs.declared.work.Waiting.{Waiting}
use Rattle.plan_store.specs.declared.queue.Queue.{Queue}
use Rattle.plan_store.specs.declared.stage.Stage.{Stage}
use Rattle.plan_store.specs.declared.stage.NodeInfo.{NodeInfo}
use Rattle.plan_store.specs.declared.stage.Flight.{Flight}
use Rattle.plan_store.specs.Told.{Given, plan_of, site_of}
use Rattle.run_state.specs.Stored.{Stored, Stands, StageIs, QueueIs, IsWaiting, waiting_item, goes_on, in_flight, takes_all, AllAway, Away, PartStands, SlotIs, RowIs, is_live}
use Rattle.plan_store.specs.Taking.{gives_next, next_by, with_task, IsShortened}
use Rattle.run_state.specs.Claiming.{takes_batch, reads_from}
use Rattle.run_state.proofs.Held.{held_set}
use Rattle.run_state.proofs.Growing.{peak_covers, with_most, standing}
use Rattle.run_state.proofs.Seated.{seated}
use Rattle.run_state.proofs.Choosing.{can_phase, not_done}
use Rattle.run_state.proofs.Landing.{row_full}
use Rattle.run_state.proofs.Delivering.{site_workers}
use Rattle.run_state.proofs.Entering.{stored_claimed, row_taken, row_gone}

-- ---- the machine's state after a claim, by what the job takes

module _ (P : MachinePlan (List Value)) (s : State (List Value)) (w n : ℕ) where
  one_is : (job : Job) (k : ℕ) → gives_next job ≡ true → claimed P s w n job k ≡ record s { next = upd s.next n (k + 1); tasks = upd s.tasks w (Some (task_of s n job k blank [])) }
  one_is Emit k e = refl
  one_is Fold k e = cc
  one_is Seal k e = cc
  one_is Stream k e = cc
  one_is Close k e = cc
  one_is Tail k e = refl

  batch_is : (job : Job) (k : ℕ) (phase : Phase) → takes_batch job ≡ true → phase ≡ phase_of job
      → claimed P s w n job k
      ≡ record s {
        waiting = upd s.waiting (reads_from P n phase) (without k (s.waiting (reads_from P n phase)));
        locals = upd s.locals n (upd (s.locals n) w []);
        tasks = upd s.tasks w (Some (task_of s n job k (at_or blank k (s.waiting (reads_from P n phase))) (s.locals n w)));
      }
  batch_is Emit k phase e at = cc
  batch_is Fold k phase e at = rw at refl
  batch_is Seal k phase e at = cc
  batch_is Stream k phase e at = rw at refl
  batch_is Close k phase e at = cc
  batch_is Tail k phase e at = cc

  all_is : (job : Job) (k : ℕ) → takes_all job ≡ true → claimed P s w n job k ≡ record s { locals = upd s.locals n (λ _. []); tasks = upd s.tasks w (Some (task_of s n job k blank (gather P.workers (s.locals n)))) }
  all_is Emit k e = cc
  all_is Fold k e = cc
  all_is Seal k e = refl
  all_is Stream k e = cc
  all_is Close k e = refl
  all_is Tail k e = cc

  -- no Seal and no Close is in flight where a claim is enabled
  none_at : (job job' : Job) (k w' : ℕ) (t : Task (List Value)) → CanDo P s n job k → s.phase n ≡ phase_of job' → takes_all job' ≡ true → TaskFits P s n w' t job' → ⊥
  none_at job Emit k w' t can at all fits = cc
  none_at job Fold k w' t can at all fits = cc
  none_at job Stream k w' t can at all fits = cc
  none_at job Tail k w' t can at all fits = cc
  none_at Emit Seal k w' t can at all fits = let e = sym at ∙ can.0 in cc
  none_at Fold Seal k w' t can at all fits = let a = ap length fits.2.1 in let b = can.1 in omega arith
  none_at Seal Seal k w' t can at all fits = let e = sym fits.0 ∙ can.1 in cc
  none_at Stream Seal k w' t can at all fits = let e = sym at ∙ can.0 in cc
  none_at Close Seal k w' t can at all fits = let e = sym at ∙ can.0 in cc
  none_at Tail Seal k w' t can at all fits = let e = sym at ∙ can.0 in cc
  none_at Emit Close k w' t can at all fits = let e = sym at ∙ can.0 in cc
  none_at Fold Close k w' t can at all fits = let e = sym at ∙ can.0 in cc
  none_at Seal Close k w' t can at all fits = let e = sym at ∙ can.0 in cc
  none_at Stream Close k w' t can at all fits = let a = ap length fits.2.1 in let b = can.1 in omega arith
  none_at Close Close k w' t can at all fits = let e = sym fits.0 ∙ can.1 in cc
  none_at Tail Close k w' t can at all fits = let e = sym at ∙ can.0 in cc

-- no more tasks than workers are in flight at a node
one_or_none : {A : Type 0} (b : Bool) (x : A) → length (cond b (x ∷ []) []) ≤ 1
one_or_none true x = omega arith
one_or_none false x = omega arith

on_one : (P : MachinePlan (List Value)) (n : ℕ) (o : Option (Task (List Value))) → length (on_node P n o) ≤ 1
on_one P n None = omega arith
on_one P n (Some t) = one_or_none (nat_eq t.node n) t

few : (P : MachinePlan (List Value)) (ts : ℕ → Option (Task (List Value))) (n k : ℕ) → length (gather k (λ w. on_node P n (ts w))) ≤ k
few P ts n zero = omega arith
few P ts n (suc k) =
    let a = few P ts n k in
    let b = on_one P n (ts (suc k)) in
    let c = length-append (gather k (λ w. on_node P n (ts w))) (on_node P n (ts (suc k))) in
    omega arith

in_flight_one : (o : Option (Task (List Value))) → in_flight o ≤ 1
in_flight_one None = omega arith
in_flight_one (Some t) = omega arith

-- ---- a queue without its first batch

least_first : {A : Type 0} (d x : A) (xs ys : List A) → ys ≡ x ∷ xs → (without 0 ys ≡ xs) × (at_or d 0 ys ≡ x) × (length xs + 1 ≡ length ys)
least_first d x xs [] e = cc
least_first d x xs (y ∷ ys) e = let a : y ≡ x = cc in let b : ys ≡ xs = cc in (b, a, let c = ap length b in omega arith)

read_later : {A : Type 0} (x : A) (xs ys : List A) (k : ℕ) (d : A) → ys ≡ x ∷ xs → slice_index_or ys (suc k) d ≡ slice_index_or xs k d
read_later x xs ys k d e = ap (λ l. slice_index_or l (suc k) d) e

read_first : {A : Type 0} (x : A) (xs ys : List A) (d : A) → ys ≡ x ∷ xs → slice_index_or ys 0 d ≡ x
read_first x xs ys d e = ap (λ l. slice_index_or l 0 d) e

queue_less : (columns : List ColType) (may : Bool) (places : ℕ) (waiting : List (Batch (List Value))) (paused : Bool) (most : ℕ) (q q' : Queue) (first : Waiting)
    → IsShortened q first q' → QueueIs columns may places waiting paused most q
    → QueueIs columns may places (without 0 waiting) paused most q'
queue_less columns may places waiting paused most q q' first cut h =
    let l = least_first blank (waiting_item first) (map waiting_item q'.waiting.items) waiting (sym h.items ∙ ap (map waiting_item) cut.items) in
    record {
      items = sym l.0;
      each = λ k d lt.
          subst (IsWaiting columns may) (read_later first q'.waiting.items q.waiting.items k d cut.items)
          (h.each (suc k) d (let e = ap length cut.items in omega arith));
      room = let r = cut.room in let a = h.room in omega arith;
      count =
          let e = ap (λ x. x.waiting) cut.edge in
          let c = h.count in
          let n = l.2 in
          let same = ap length l.0 in
          omega arith;
      is_paused = ap (λ x. x.paused) cut.edge ∙ h.is_paused;
      is_peak = ap (λ x. x.peak) cut.edge ∙ h.is_peak;
    }

pub oldest : (columns : List ColType) (may : Bool) (places : ℕ) (waiting : List (Batch (List Value))) (paused : Bool) (most : ℕ) (q q' : Queue) (first : Waiting)
    → IsShortened q first q' → QueueIs columns may places waiting paused most q
    → (waiting_item first ≡ at_or blank 0 waiting) × IsWaiting columns may first
oldest columns may places waiting paused most q q' first cut h =
    let l = least_first blank (waiting_item first) (map waiting_item q'.waiting.items) waiting (sym h.items ∙ ap (map waiting_item) cut.items) in
    (sym l.1, subst (IsWaiting columns may) (read_first first q'.waiting.items q.waiting.items first cut.items) (h.each 0 first (let e = ap length cut.items in omega arith)))

shorter : (waiting : ℕ → List (Batch (List Value))) (a e : ℕ) → length (upd waiting a (without 0 (waiting a)) e) ≤ length (waiting e)
shorter waiting a e = at (same_or e a)
  where
    less : (xs : List (Batch (List Value))) → length (without 0 xs) ≤ length xs
    less [] = omega arith
    less (x ∷ xs) = omega arith

    at : (e ≡ a) ⊎ (e ≢ a) → length (upd waiting a (without 0 (waiting a)) e) ≤ length (waiting e)
    at (inl q) = subst (λ j. length (upd waiting a (without 0 (waiting a)) j) ≤ length (waiting j)) (sym q) (let u = ap length (upd-here waiting a (without 0 (waiting a))) in let l = less (waiting a) in omega arith)
    at (inr ne) = let u = ap length (upd-else waiting a (without 0 (waiting a)) e ne) in omega arith

same_next : (job : Job) (k : ℕ) → gives_next job ≡ false → k ≡ next_by job k
same_next Emit k e = cc
same_next Fold k e = refl
same_next Seal k e = refl
same_next Stream k e = refl
same_next Close k e = refl
same_next Tail k e = cc

batch_no_next : (job : Job) → takes_batch job ≡ true → gives_next job ≡ false
batch_no_next Emit e = cc
batch_no_next Fold e = refl
batch_no_next Seal e = cc
batch_no_next Stream e = refl
batch_no_next Close e = cc
batch_no_next Tail e = cc

all_no_next : (job : Job) → takes_all job ≡ true → gives_next job ≡ false
all_no_next Emit e = cc
all_no_next Fold e = cc
all_no_next Seal e = refl
all_no_next Stream e = cc
all_no_next Close e = refl
all_no_next Tail e = cc

pub idle_at : (P : MachinePlan (List Value)) (s : State (List Value)) (n : ℕ) (job : Job) (k : ℕ) → takes_all job ≡ true → CanDo P s n job k → tasks_at P s n ≡ []
idle_at P s n Emit k e can = cc
idle_at P s n Fold k e can = cc
idle_at P s n Seal k e can = can.1
idle_at P s n Stream k e can = cc
idle_at P s n Close k e can = can.1
idle_at P s n Tail k e can = cc

module _ {O S L : Type 0}
    (meaning : O → OpMeaning)
    (local_is : OpMeaning → List ColType → L → List (Batch (List Value)) → Type 0)
    (shared_is : OpMeaning → List (List ColType) → S → List (List Value) → List (Batch (List Value)) → Type 0)
  where
    live_job : (last : Bool) (job : Job) → is_live meaning local_is shared_is last (phase_of job) ≡ true
    live_job last Emit = refl
    live_job last Fold = refl
    live_job last Seal = refl
    live_job last Stream = refl
    live_job last Close = refl
    live_job last Tail = refl

    -- a slot that isn't empty
    some_share : (v : Site) (last failed : Bool) (phase : Phase) (taken : List (Batch (List Value))) (built : List (List Value)) (streamed : List (Batch (List Value))) (away : Type 0) (slot : Option (Share O S L))
        → SlotIs meaning local_is shared_is v last failed phase taken built streamed away slot
        → (slot ≡ None → ⊥)
        → (share : Share O S L) × (slot ≡ Some share) × PartStands meaning local_is shared_is v last phase taken built streamed share
    some_share v last failed phase taken built streamed away None h there = absurd (there refl)
    some_share v last failed phase taken built streamed away (Some x) h there = (x, refl, h.stands)

    module _ (g : Given) (es : List Entry) (infos : List NodeInfo) (stages : List Stage) (queues : List Queue) (rows : List (List (Option (Share O S L)))) (seats : List (Option Flight)) (failed : Bool) (flying room capacity : ℕ)
        (h : Stands meaning local_is shared_is g es infos stages queues rows seats failed flying room capacity)
        (q p : ℕ) (job : Job) (k : ℕ)
        (can : Enabled (plan_of g) (state_after (plan_of g) es) (Claim (suc q) (suc p) job k))
      where
        not_all_away : AllAway (state_after (plan_of g) es).tasks (suc p) → ⊥
        not_all_away (w', t, is, at, all) =
            let P = plan_of g in
            let s = state_after P es in
            let worker = (seated P es h.legal).of_worker w' t is in
            let fit = fitting (List Value) P h.lawful h.well es h.legal can.0.sound w' t worker is in
            let here = can_phase P s (suc p) job k can.1 in
            elim fit.1 [
              | inl d ↦ not_done job (sym here ∙ (sym (ap s.phase at) ∙ d))
              | inr f ↦ none_at P s (suc q) (suc p) job t.job k w' t can.1 (sym (ap s.phase at) ∙ f.0) all (subst (λ m. TaskFits P s m w' t t.job) at f.1)
            ]

        pub within : p < (plan_of g).sink
        within = let a = can.0.node.1 in omega arith

        pub row_here : RowIs meaning local_is shared_is (site_of g (suc p)) (nat_eq (suc p) (plan_of g).sink) (state_after (plan_of g) es).failed ((state_after (plan_of g) es).phase (suc p)) ((state_after (plan_of g) es).locals (suc p)) ((state_after (plan_of g) es).built (suc p)) ((state_after (plan_of g) es).streamed (suc p)) (state_after (plan_of g) es).tasks (suc p) (slice_index_or rows p [])
        row_here = let all = h.stored.all_rows in let lt = within in h.stored.rows_are p [] (omega arith)

        live : is_live meaning local_is shared_is (nat_eq (suc p) (plan_of g).sink) ((state_after (plan_of g) es).phase (suc p)) ≡ true
        live = ap (is_live meaning local_is shared_is (nat_eq (suc p) (plan_of g).sink)) (can_phase (plan_of g) (state_after (plan_of g) es) (suc p) job k can.1) ∙ live_job (nat_eq (suc p) (plan_of g).sink) job

        pub row_whole : length (slice_index_or rows p []) ≡ (site_of g (suc p)).workers
        row_whole =
            let s = state_after (plan_of g) es in
            row_full meaning local_is shared_is (site_of g (suc p)) (nat_eq (suc p) (plan_of g).sink) s.failed (s.phase (suc p)) (s.locals (suc p)) (s.built (suc p)) (s.streamed (suc p)) s.tasks (suc p) (slice_index_or rows p []) can.0.sound live not_all_away row_here

        pub share_at : (j : ℕ) → j < (site_of g (suc p)).workers → ((t : Task (List Value)) → (state_after (plan_of g) es).tasks (suc j) ≡ Some t → t.node ≡ suc p → ⊥)
            → (share : Share O S L) × (slice_index_or (slice_index_or rows p []) j None ≡ Some share) × PartStands meaning local_is shared_is (site_of g (suc p)) (nat_eq (suc p) (plan_of g).sink) ((state_after (plan_of g) es).phase (suc p)) ((state_after (plan_of g) es).locals (suc p) (suc j)) ((state_after (plan_of g) es).built (suc p)) ((state_after (plan_of g) es).streamed (suc p)) share
        share_at j lt none =
            let s = state_after (plan_of g) es in
            let slot = row_here.slots j lt in
            some_share (site_of g (suc p)) (nat_eq (suc p) (plan_of g).sink) s.failed (s.phase (suc p)) (s.locals (suc p) (suc j)) (s.built (suc p)) (s.streamed (suc p)) (Away s.tasks (suc p) (suc j)) (slice_index_or (slice_index_or rows p []) j None) slot
            (λ e. elim (slot.here can.0.sound live e) [ inl t ↦ none t.0 t.1 t.2 | inr all ↦ not_all_away all ])

        stage_at : (d : Stage) → StageIs (plan_of g) (suc p) ((state_after (plan_of g) es).phase (suc p)) ((state_after (plan_of g) es).next (suc p)) ((state_after (plan_of g) es).built (suc p)) ((state_after (plan_of g) es).streamed (suc p)) (length (tasks_at (plan_of g) (state_after (plan_of g) es) (suc p))) (slice_index_or stages p d)
        stage_at d = let all = h.stored.all_stages in let lt = within in h.stored.stages_are p d (omega arith)

        next_low : (j : Job) → CanDo (plan_of g) (state_after (plan_of g) es) (suc p) j k → gives_next j ≡ true → (d : Stage) → (slice_index_or stages p d).next < (slice_index_or stages p d).count
        next_low Emit c e d = let st = stage_at d in let a = st.is_next in let b = st.emits c.0 in let x = c.1 in let y = c.2 in omega arith
        next_low Fold c e d = cc
        next_low Seal c e d = cc
        next_low Stream c e d = cc
        next_low Close c e d = cc
        next_low Tail c e d = let st = stage_at d in let a = st.is_next in let b = st.ends c.0 in let x = c.1 in let y = c.2 in omega arith

        -- there is a seat, and the counts stay small
        pub entering_at : (d : Stage) → 2 ≤ room → (1 ≤ suc q) × (suc q ≤ length seats) × (1 ≤ suc p) × (suc p ≤ length stages) × ((slice_index_or stages p d).busy < 2 ^ 32 - 1) × (gives_next job ≡ true → (slice_index_or stages p d).next < (slice_index_or stages p d).count) × (length es < capacity) × (flying < 2 ^ 64 - 1)
        entering_at d two =
            let P = plan_of g in
            let s = state_after P es in
            let all = h.stored.all_seats in
            let all_stages = h.stored.all_stages in
            let lt = within in
            let w = can.0.worker.1 in
            let n = can.0.node.1 in
            let b = (stage_at d).busy in
            let f = few P s.tasks (suc p) P.workers in
            let most = h.sizes.workers.1 in
            let fits = h.fits in
            let fly = sum_ones P.workers (λ v. in_flight (s.tasks v)) (λ v. in_flight_one (s.tasks v)) in
            let counted = h.stored.flying_is in
            (omega arith, omega arith, omega arith, omega arith, omega arith, (λ e. next_low job can.1 e d), omega arith, omega arith)

        -- the state after the claim, where fewer batches wait or as many
        claimed_stands : (s' : State (List Value)) (stages' : List Stage) (queues' : List Queue) (rows' : List (List (Option (Share O S L)))) (seats' : List (Option Flight)) (flying' room' capacity' : ℕ)
            → claimed (plan_of g) (state_after (plan_of g) es) (suc q) (suc p) job k ≡ s'
            → ((e : ℕ) → length (s'.waiting e) ≤ length ((state_after (plan_of g) es).waiting e))
            → Stored meaning local_is shared_is g s' (λ e. peak (plan_of g) e es (opening (plan_of g))) infos stages' queues' rows' seats' failed flying'
            → flying' ≡ flying + 1 → room' + 2 ≤ room → capacity' ≡ capacity
            → Stands meaning local_is shared_is g (es ++ Claim (suc q) (suc p) job k ∷ []) infos stages' queues' rows' seats' failed flying' room' capacity'
        unfolding after
        claimed_stands s' stages' queues' rows' seats' flying' room' capacity' is fewer st more less same =
            let P = plan_of g in
            let s = state_after P es in
            let most : ℕ → ℕ = λ e. peak P e es (opening P) in
            let stored = subst (λ z. Stored meaning local_is shared_is g z most infos stages' queues' rows' seats' failed flying') (sym is) st in
            standing meaning local_is shared_is g es (Claim (suc q) (suc p) job k) infos infos stages stages' queues queues' rows rows' seats seats' failed failed flying flying' room room' capacity capacity' h can
            (with_most meaning local_is shared_is g (claimed P s (suc q) (suc p) job k) most _ infos stages' queues' rows' seats' failed flying'
            (λ e.
            let a = peak_covers P es (opening P) e in
            let b = fewer e in
            let c = ap (λ (z : State (List Value)). length (z.waiting e)) is in
            omega arith)
            stored)
            (let f = h.fits in omega arith)

        one_others : (j : ℕ) → j ≢ q → (state_after (plan_of g) es).locals (suc p) (suc j) ≡ (state_after (plan_of g) es).locals (suc p) (suc j)
        one_others j ne = refl

        seat_low : q < (site_of g (suc p)).workers
        seat_low = let w = can.0.worker.1 in let s = site_workers g (suc p) in omega arith

        pub after_one : (f : Flight) (d : Stage) (flying' room' capacity' : ℕ)
            → f.node ≡ suc p → f.job ≡ job → f.number ≡ k
            → gives_next job ≡ true → flying' ≡ flying + 1 → room' + 2 ≤ room → capacity' ≡ capacity
            → Stands meaning local_is shared_is g (es ++ Claim (suc q) (suc p) job k ∷ []) infos (slice_set stages p (with_task (slice_index_or stages p d) f.job)) queues (slice_set rows p (slice_set (slice_index_or rows p []) q None)) (slice_set seats q (Some f)) failed flying' room' capacity'
        after_one f d flying' room' capacity' at_node at_job at_number gives more less same =
            let P = plan_of g in
            let s = state_after P es in
            let t = task_of s (suc p) job k blank [] in
            claimed_stands (record s { next = upd s.next (suc p) (k + 1); tasks = upd s.tasks (suc q) (Some t) }) (slice_set stages p (with_task (slice_index_or stages p d) f.job)) queues (slice_set rows p (slice_set (slice_index_or rows p []) q None)) (slice_set seats q (Some f)) flying' room' capacity'
            (one_is P s (suc q) (suc p) job k gives)
            (λ e. omega arith)
            (stored_claimed meaning local_is shared_is g s (upd s.next (suc p) (k + 1)) s.waiting s.locals _ _ infos stages queues queues rows (slice_set (slice_index_or rows p []) q None) seats failed flying flying' q p f t d
            can.0.worker can.0.free refl (let all = h.stored.all_stages in let lt = within in omega arith) more (at_node, at_job, at_number)
            (upd-here s.next (suc p) (k + 1) ∙ next_is f.job at_job)
            (λ n ne. upd-else s.next (suc p) (k + 1) n ne)
            (λ n ne. refl) refl h.stored.queues_are
            (row_taken meaning local_is shared_is (site_of g (suc p)) (nat_eq (suc p) P.sink) s.failed (s.phase (suc p)) (s.locals (suc p)) (s.locals (suc p)) (s.built (suc p)) (s.streamed (suc p)) s.tasks q (suc p) t (slice_index_or rows p []) row_whole seat_low can.0.free refl one_others row_here)
            h.stored)
            more less same
          where
            next_is : (j : Job) → j ≡ job → k + 1 ≡ next_by j ((state_after (plan_of g) es).next (suc p))
            next_is j e = subst (λ x. k + 1 ≡ next_by x ((state_after (plan_of g) es).next (suc p))) (sym e) (by job can.1 gives)
              where
                by : (x : Job) → CanDo (plan_of g) (state_after (plan_of g) es) (suc p) x k → gives_next x ≡ true → k + 1 ≡ next_by x ((state_after (plan_of g) es).next (suc p))
                by Emit c e = let a = c.1 in omega arith
                by Fold c e = cc
                by Seal c e = cc
                by Stream c e = cc
                by Close c e = cc
                by Tail c e = let a = c.1 in omega arith

        no_next : (f : Flight) → f.job ≡ job → gives_next job ≡ false → (state_after (plan_of g) es).next (suc p) ≡ next_by f.job ((state_after (plan_of g) es).next (suc p))
        no_next f at_job none = same_next f.job ((state_after (plan_of g) es).next (suc p)) (ap gives_next at_job ∙ none)

        pub after_all : (f : Flight) (d : Stage) (flying' room' capacity' : ℕ)
            → f.node ≡ suc p → f.job ≡ job → f.number ≡ k
            → takes_all job ≡ true → flying' ≡ flying + 1 → room' + 2 ≤ room → capacity' ≡ capacity
            → Stands meaning local_is shared_is g (es ++ Claim (suc q) (suc p) job k ∷ []) infos (slice_set stages p (with_task (slice_index_or stages p d) f.job)) queues (slice_set rows p []) (slice_set seats q (Some f)) failed flying' room' capacity'
        after_all f d flying' room' capacity' at_node at_job at_number all more less same =
            let P = plan_of g in
            let s = state_after P es in
            let t = task_of s (suc p) job k blank (gather P.workers (s.locals (suc p))) in
            claimed_stands (record s { locals = upd s.locals (suc p) (λ _. []); tasks = upd s.tasks (suc q) (Some t) }) (slice_set stages p (with_task (slice_index_or stages p d) f.job)) queues (slice_set rows p []) (slice_set seats q (Some f)) flying' room' capacity'
            (all_is P s (suc q) (suc p) job k all)
            (λ e. omega arith)
            (stored_claimed meaning local_is shared_is g s s.next s.waiting (upd s.locals (suc p) (λ _. [])) _ _ infos stages queues queues rows [] seats failed flying flying' q p f t d
            can.0.worker can.0.free refl (let counts = h.stored.all_stages in let lt = within in omega arith) more (at_node, at_job, at_number)
            (no_next f at_job (all_no_next job all))
            (λ n ne. refl)
            (λ n ne. upd-else s.locals (suc p) (λ _. []) n ne) refl h.stored.queues_are
            (row_gone meaning local_is shared_is (site_of g (suc p)) (nat_eq (suc p) P.sink) s.failed (s.phase (suc p)) (upd s.locals (suc p) (λ _. []) (suc p)) (s.built (suc p)) (s.streamed (suc p)) s.tasks (suc q) (suc p) t refl all)
            h.stored)
            more less same

        pub after_batch : (f : Flight) (d : Stage) (d' q' : Queue) (first : Waiting) (r flying' room' capacity' : ℕ)
            → f.node ≡ suc p → f.job ≡ job → f.number ≡ k
            → takes_batch job ≡ true → k ≡ 0
            → suc r ≡ reads_from (plan_of g) (suc p) ((state_after (plan_of g) es).phase (suc p)) → r < length queues
            → IsShortened (slice_index_or queues r d') first q'
            → flying' ≡ flying + 1 → room' + 2 ≤ room → capacity' ≡ capacity
            → Stands meaning local_is shared_is g (es ++ Claim (suc q) (suc p) job k ∷ []) infos (slice_set stages p (with_task (slice_index_or stages p d) f.job)) (slice_set queues r q') (slice_set rows p (slice_set (slice_index_or rows p []) q None)) (slice_set seats q (Some f)) failed flying' room' capacity'
        after_batch f d d' q' first r flying' room' capacity' at_node at_job at_number takes zero_is at_edge in_queues cut more less same =
            let P = plan_of g in
            let s = state_after P es in
            let e = suc r in
            let t = task_of s (suc p) job k (at_or blank k (s.waiting e)) (s.locals (suc p) (suc q)) in
            let waiting' = upd s.waiting e (without 0 (s.waiting e)) in
            let locals' = upd s.locals (suc p) (upd (s.locals (suc p)) (suc q) []) in
            let is : (n : ℕ) → List (Batch (List Value)) → Queue → Type 0 = λ n waiting x. QueueIs (site_of g n).columns (goes_on P n) (P.pause + P.workers) waiting (s.paused n) (peak P n es (opening P)) x in
            let claimed_is : claimed P s (suc q) (suc p) job k ≡ record s { waiting = waiting'; locals = locals'; tasks = upd s.tasks (suc q) (Some t) } =
            subst (λ m. claimed P s (suc q) (suc p) job k ≡ record s { waiting = upd s.waiting m (without 0 (s.waiting m)); locals = locals'; tasks = upd s.tasks (suc q) (Some (task_of s (suc p) job k (at_or blank k (s.waiting m)) (s.locals (suc p) (suc q)))) }) (sym at_edge)
            (subst (λ j. claimed P s (suc q) (suc p) job k ≡ record s { waiting = upd s.waiting (reads_from P (suc p) (s.phase (suc p))) (without j (s.waiting (reads_from P (suc p) (s.phase (suc p))))); locals = locals'; tasks = upd s.tasks (suc q) (Some (task_of s (suc p) job k (at_or blank k (s.waiting (reads_from P (suc p) (s.phase (suc p))))) (s.locals (suc p) (suc q)))) }) zero_is
            (batch_is P s (suc q) (suc p) job k (s.phase (suc p)) takes (can_phase P s (suc p) job k can.1))) in
            claimed_stands (record s { waiting = waiting'; locals = locals'; tasks = upd s.tasks (suc q) (Some t) }) (slice_set stages p (with_task (slice_index_or stages p d) f.job)) (slice_set queues r q') (slice_set rows p (slice_set (slice_index_or rows p []) q None)) (slice_set seats q (Some f)) flying' room' capacity'
            claimed_is
            (λ j. shorter s.waiting e j)
            (stored_claimed meaning local_is shared_is g s s.next waiting' locals' _ _ infos stages queues (slice_set queues r q') rows (slice_set (slice_index_or rows p []) q None) seats failed flying flying' q p f t d
            can.0.worker can.0.free refl (let counts = h.stored.all_stages in let lt = within in omega arith) more (at_node, at_job, at_number)
            (no_next f at_job (batch_no_next job takes))
            (λ n ne. refl)
            (λ n ne. upd-else s.locals (suc p) (upd (s.locals (suc p)) (suc q) []) n ne)
            (length-set queues r q')
            (held_set (λ n x. is n (s.waiting n) x) (λ n x. is n (waiting' n) x) queues r q' h.stored.queues_are
            (subst (λ w. is e w q') (sym (upd-here s.waiting e (without 0 (s.waiting e))))
            (queue_less (site_of g e).columns (goes_on P e) (P.pause + P.workers) (s.waiting e) (s.paused e) (peak P e es (opening P)) (slice_index_or queues r d') q' first cut (h.stored.queues_are r d' in_queues)))
            (λ n x ne old. subst (λ w. is n w x) (sym (upd-else s.waiting e (without 0 (s.waiting e)) n ne)) old))
            (row_taken meaning local_is shared_is (site_of g (suc p)) (nat_eq (suc p) P.sink) s.failed (s.phase (suc p)) (s.locals (suc p)) (locals' (suc p)) (s.built (suc p)) (s.streamed (suc p)) s.tasks q (suc p) t (slice_index_or rows p []) row_whole seat_low can.0.free refl
            (λ j ne.
            ap (λ (l : ℕ → List (Batch (List Value))). l (suc j)) (upd-here s.locals (suc p) (upd (s.locals (suc p)) (suc q) []))
            ∙ upd-else (s.locals (suc p)) (suc q) [] (suc j) (λ x. ne (omega arith)))
            row_here)
            h.stored)
            more less same
