-- What a claim of a chosen flight finds and leaves, as its calls say it.
use Rattle.std.proofs.Common.{◌≡◌, ℕ, zero, suc, ◌+◌, ◌-◌, ◌^◌, ◌<◌, ◌≤◌, Bool, true, List, [], ◌∷◌, ◌++◌, length, Option, Some, None, refl, sym, ap, subst, ◌∙◌, arith, slice_index_or, slice_set}
use Rattle.std.specs.VecDeque.{deque_len}
use Rattle.scalar_value.specs.declared.value.Value.{Value}
use Rattle.scalar_value.specs.declared.value.ColType.{ColType}
use Rattle.plan_machine.specs.declared.entry.Phase.{Phase}
use Rattle.plan_machine.specs.declared.entry.Phase.TheVariants.{Emitting, Folding, Streaming, Tailing, Sealed, Done}
use Rattle.plan_machine.specs.declared.entry.Job.{Job}
use Rattle.plan_machine.specs.declared.entry.Job.TheVariants.{Emit, Fold, Seal, Stream, Close, Tail}
use Rattle.plan_machine.specs.declared.entry.Entry.TheVariants.{Claim}
use Rattle.plan_machine.specs.Batch.{Batch, blank}
use Rattle.plan_machine.specs.Lists.{at_or}
use Rattle.plan_machine.specs.Plan.{Plan as MachinePlan, IsNode}
use Rattle.plan_machine.specs.State.{State, opening}
use Rattle.plan_machine.specs.Enabled.{Enabled, CanDo}
use Rattle.plan_machine.specs.History.{peak}
use Rattle.plan_machine.specs.WellFormed.{Lawful, WellFormed}
use Rattle.plan_machine.proofs.Turn.{folds_input, streams_input, Started}
use Rattle.plan_machine.proofs.Steps.{run, good-opening}
use Rattle.std.proofs.lemmas.List.{length-map}
use Rattle.plan_machine.proofs.Flight.{none-flying}
use Rattle.plan_nodes.specs.Operators.{OpMeaning}
use Rattle.task_work.specs.declared.work.Share.{Share}
use Rattle.task_work.specs.declared.work.Waiting.{Waiting}
use Rattle.plan_store.specs.declared.queue.Queue.{Queue}
use Rattle.plan_store.specs.declared.stage.Stage.{Stage}
use Rattle.plan_store.specs.declared.stage.NodeInfo.{NodeInfo}
use Rattle.plan_store.specs.declared.stage.Flight.{Flight}
use Rattle.plan_store.specs.Told.{Told, plan_of, state_of, site_of}
use Rattle.run_state.specs.Stored.{Stands, QueueIs, IsWaiting, waiting_item, goes_on, takes_all}
use Rattle.plan_store.specs.Taking.{gives_next, with_task, IsEntering, IsShortened}
use Rattle.run_state.specs.Claiming.{takes_batch, reads_from, IsShareOf, IsRowOf, IsOldest}
use Rattle.plan_store.proofs.At.{some_of}
use Rattle.run_state.proofs.Delivering.{site_workers}
use Rattle.run_state.proofs.Claiming.{share_at, row_whole, idle_at, entering_at, after_one, after_batch, after_all, within, oldest}

same_at : {B : Type 0} (xs : List B) (p : ℕ) (d e : B) → p < length xs → slice_index_or xs p d ≡ slice_index_or xs p e
same_at [] p d e lt = absurd (let no : ⊥ = omega arith in no)
same_at (x ∷ xs) zero d e lt = refl
same_at (x ∷ xs) (suc p) d e lt = same_at xs p d e (omega arith)

module _ (P : MachinePlan (List Value)) (L : Lawful P) (W : WellFormed P) (s : State (List Value)) where
  reads_node : Started P L W s → (n : ℕ) → IsNode P n → (phase : Phase) → s.phase n ≡ phase → IsNode P (reads_from P n phase)
  reads_node st n node Emitting at = node
  reads_node st n node Folding at = let i = folds_input P W n node (st.folding n node at) in (i.node, let b = i.before in let c = node.1 in omega arith)
  reads_node st n node Streaming at = let i = streams_input P W n node (st.streaming n node at) in (i.node, let b = i.before in let c = node.1 in omega arith)
  reads_node st n node Tailing at = node
  reads_node st n node Sealed at = node
  reads_node st n node Done at = node

some_waits : (P : MachinePlan (List Value)) (s : State (List Value)) (n : ℕ) (job : Job) (k : ℕ) → takes_batch job ≡ true → CanDo P s n job k → 0 < length (s.waiting (reads_from P n (s.phase n)))
some_waits P s n Emit k e can = cc
some_waits P s n Fold k e can = subst (λ p. 0 < length (s.waiting (reads_from P n p))) (sym can.0) (let a = can.1 in omega arith)
some_waits P s n Seal k e can = cc
some_waits P s n Stream k e can = subst (λ p. 0 < length (s.waiting (reads_from P n p))) (sym can.0) (let a = can.1 in omega arith)
some_waits P s n Close k e can = cc
some_waits P s n Tail k e can = cc

module _ {O S L : Type 0}
    (meaning : O → OpMeaning)
    (local_is : OpMeaning → List ColType → L → List (Batch (List Value)) → Type 0)
    (shared_is : OpMeaning → List (List ColType) → S → List (List Value) → List (Batch (List Value)) → Type 0)
    (told : Told) (infos : List NodeInfo) (stages : List Stage) (queues : List Queue) (rows : List (List (Option (Share O S L)))) (seats : List (Option Flight)) (failed : Bool) (flying capacity : ℕ)
    (h : Stands meaning local_is shared_is told.given told.history infos stages queues rows seats failed flying told.room capacity)
    (w : ℕ) (f : Flight)
    (can : Enabled (plan_of told.given) (state_of told) (Claim w f.node f.job f.number))
  where
    at_worker : suc (w - 1) ≡ w
    at_worker = let a = can.0.worker.0 in omega arith

    at_node : suc (f.node - 1) ≡ f.node
    at_node = let a = can.0.node.0 in omega arith

    can_at : Enabled (plan_of told.given) (state_of told) (Claim (suc (w - 1)) (suc (f.node - 1)) f.job f.number)
    can_at =
        subst (λ v. Enabled (plan_of told.given) (state_of told) (Claim v (suc (f.node - 1)) f.job f.number)) (sym at_worker)
        (subst (λ n. Enabled (plan_of told.given) (state_of told) (Claim w n f.job f.number)) (sym at_node) can)

    in_nodes : f.node - 1 < (plan_of told.given).sink
    in_nodes = within meaning local_is shared_is told.given told.history infos stages queues rows seats failed flying told.room capacity h (w - 1) (f.node - 1) f.job f.number can_at

    pub entering : 2 ≤ told.room → IsEntering seats stages flying (length told.history) capacity w f
    entering two =
        let lt = in_nodes in
        let all_seats = h.stored.all_seats in
        let all_stages = h.stored.all_stages in
        let worker = can.0.worker in
        let node = can.0.node in
        let d = some_of (f.node - 1) stages (omega arith) in
        let facts : (x : Stage) → (1 ≤ suc (w - 1)) × (suc (w - 1) ≤ length seats) × (1 ≤ suc (f.node - 1)) × (suc (f.node - 1) ≤ length stages) × ((slice_index_or stages (f.node - 1) x).busy < 2 ^ 32 - 1) × (gives_next f.job ≡ true → (slice_index_or stages (f.node - 1) x).next < (slice_index_or stages (f.node - 1) x).count) × (length told.history < capacity) × (flying < 2 ^ 64 - 1)
        = λ x. entering_at meaning local_is shared_is told.given told.history infos stages queues rows seats failed flying told.room capacity h (w - 1) (f.node - 1) f.job f.number can_at x two in
        record {
          seat = (worker.0, omega arith);
          node = (node.0, omega arith);
          busy = λ x. (facts x).4;
          next = λ x. (facts x).5;
          room = (facts d).6;
          flies = (facts d).7;
        }

    place_in : f.node - 1 < length rows
    place_in = let lt = in_nodes in let all = h.stored.all_rows in omega arith

    low : w - 1 < (site_of told.given (suc (f.node - 1))).workers
    low = let s = site_workers told.given (suc (f.node - 1)) in let a = can.0.worker in omega arith

    row_at : (d : List (Option (Share O S L))) → slice_index_or rows (f.node - 1) [] ≡ slice_index_or rows (f.node - 1) d
    row_at d = same_at rows (f.node - 1) [] d place_in

    pub seat_in : (d : List (Option (Share O S L))) → w - 1 < length (slice_index_or rows (f.node - 1) d)
    seat_in d =
        let a = row_whole meaning local_is shared_is told.given told.history infos stages queues rows seats failed flying told.room capacity h (w - 1) (f.node - 1) f.job f.number can_at in
        let b = ap length (row_at d) in
        let c = low in
        omega arith

    pub share_of : (slot : Option (Share O S L)) → ((d : List (Option (Share O S L))) → slot ≡ slice_index_or (slice_index_or rows (f.node - 1) d) (w - 1) None) → IsShareOf meaning local_is shared_is told w f.node slot
    share_of slot is =
        let x = share_at meaning local_is shared_is told.given told.history infos stages queues rows seats failed flying told.room capacity h (w - 1) (f.node - 1) f.job f.number can_at (w - 1) low (λ t e at. let c = sym can_at.0.free ∙ e in cc) in
        subst (λ v. IsShareOf meaning local_is shared_is told v f.node slot) at_worker
        (subst (λ n. IsShareOf meaning local_is shared_is told (suc (w - 1)) n slot) at_node (x.0, is [] ∙ x.1, x.2))

    pub row_of : takes_all f.job ≡ true → (row : List (Option (Share O S L))) → ((d : List (Option (Share O S L))) → row ≡ slice_index_or rows (f.node - 1) d) → IsRowOf meaning local_is shared_is told f.node row
    row_of all row is =
        let P = plan_of told.given in
        let s = state_of told in
        let whole = row_whole meaning local_is shared_is told.given told.history infos stages queues rows seats failed flying told.room capacity h (w - 1) (f.node - 1) f.job f.number can_at in
        let idle = idle_at P s (suc (f.node - 1)) f.job f.number all can_at.1 in
        let workers = site_workers told.given (suc (f.node - 1)) in
        subst (λ n. IsRowOf meaning local_is shared_is told n row) at_node
        (record {
          size = ap length (is []) ∙ (whole ∙ workers);
          each = λ k lt.
              let x = share_at meaning local_is shared_is told.given told.history infos stages queues rows seats failed flying told.room capacity h (w - 1) (f.node - 1) f.job f.number can_at k (omega arith) (λ t e at. none-flying P s.tasks (suc (f.node - 1)) idle (suc k) t (omega arith, omega arith) e at) in
              (x.0, ap (λ l. slice_index_or l k None) (is []) ∙ x.1, x.2);
        })

    -- ---- the edge that is read

    pub edge_in : IsNode (plan_of told.given) (reads_from (plan_of told.given) f.node ((state_of told).phase f.node))
    edge_in =
        let P = plan_of told.given in
        let st = (run P h.lawful h.well told.history (opening P) (good-opening P h.lawful h.well) h.legal can.0.sound).good.sound.fit.started in
        reads_node P h.lawful h.well (state_of told) st f.node can.0.node ((state_of told).phase f.node) refl

    queue_at : (e : ℕ) → IsNode (plan_of told.given) e → (d : Queue)
        → QueueIs (site_of told.given e).columns (goes_on (plan_of told.given) e) ((plan_of told.given).pause + (plan_of told.given).workers) ((state_of told).waiting e) ((state_of told).paused e) (peak (plan_of told.given) e told.history (opening (plan_of told.given))) (slice_index_or queues (e - 1) d)
    queue_at e node d =
        let P = plan_of told.given in
        let s = state_of told in
        let all = h.stored.all_queues in
        let at : suc (e - 1) ≡ e = let a = node.0 in omega arith in
        subst (λ m. QueueIs (site_of told.given m).columns (goes_on P m) (P.pause + P.workers) (s.waiting m) (s.paused m) (peak P m told.history (opening P)) (slice_index_or queues (e - 1) d)) at
        (h.stored.queues_are (e - 1) d (let a = node.0 in let b = node.1 in omega arith))

    -- where a batch is taken, one waits
    pub front_in : takes_batch f.job ≡ true → (e : ℕ) → e ≡ reads_from (plan_of told.given) f.node ((state_of told).phase f.node)
        → (1 ≤ e) × (e - 1 < length queues) × ((d : Queue) → 0 < deque_len (slice_index_or queues (e - 1) d).waiting) × ((d : Queue) → 0 < (slice_index_or queues (e - 1) d).edge.waiting)
    front_in takes e is =
        let P = plan_of told.given in
        let s = state_of told in
        let node : IsNode P e = subst (λ m. IsNode P m) (sym is) edge_in in
        let some : 0 < length (s.waiting e) = subst (λ m. 0 < length (s.waiting m)) (sym is) (some_waits P s f.node f.job f.number takes can.1) in
        let all = h.stored.all_queues in
        let a = node.0 in
        let b = node.1 in (
          a,
          omega arith,
          (λ d. let q = queue_at e node d in let c = ap length q.items in let m = length-map (slice_index_or queues (e - 1) d).waiting.items waiting_item in let k = (slice_index_or queues (e - 1) d).waiting.ok.0 in omega arith),
          (λ d. let q = queue_at e node d in let c = q.count in omega arith),
        )

    pub oldest_of : takes_batch f.job ≡ true → (e : ℕ) → e ≡ reads_from (plan_of told.given) f.node ((state_of told).phase f.node) → (first : Waiting) (queues' : List Queue)
        → ((d : Queue) → (q : Queue) × (queues' ≡ slice_set queues (e - 1) q) × IsShortened (slice_index_or queues (e - 1) d) first q)
        → IsOldest told f.node first
    oldest_of takes e is first queues' cut =
        let P = plan_of told.given in
        let s = state_of told in
        let node : IsNode P e = subst (λ m. IsNode P m) (sym is) edge_in in
        let d = some_of (e - 1) queues (front_in takes e is).1 in
        let c = cut d in
        let o = oldest (site_of told.given e).columns (goes_on P e) (P.pause + P.workers) (s.waiting e) (s.paused e) (peak P e told.history (opening P)) (slice_index_or queues (e - 1) d) c.0 first c.2 (queue_at e node d) in
        record {
          item = subst (λ m. waiting_item first ≡ at_or blank 0 (s.waiting m)) is o.0;
          stands = subst (λ m. IsWaiting (site_of told.given m).columns (goes_on P m) first) is o.1;
        }

    -- ---- what is left

    named : (stages' stages'' : List Stage) (queues' queues'' : List Queue) (rows' rows'' : List (List (Option (Share O S L)))) (seats' seats'' : List (Option Flight)) (flying' room' capacity' : ℕ)
        → stages' ≡ stages'' → queues' ≡ queues'' → rows' ≡ rows'' → seats' ≡ seats''
        → Stands meaning local_is shared_is told.given (told.history ++ Claim (suc (w - 1)) (suc (f.node - 1)) f.job f.number ∷ []) infos stages'' queues'' rows'' seats'' failed flying' room' capacity'
        → Stands meaning local_is shared_is told.given (told.history ++ Claim w f.node f.job f.number ∷ []) infos stages' queues' rows' seats' failed flying' room' capacity'
    named stages' stages'' queues' queues'' rows' rows'' seats' seats'' flying' room' capacity' e1 e2 e3 e4 st =
        let all : (v n : ℕ) → List Stage → List Queue → List (List (Option (Share O S L))) → List (Option Flight) → Type 0 = λ v n x y z u. Stands meaning local_is shared_is told.given (told.history ++ Claim v n f.job f.number ∷ []) infos x y z u failed flying' room' capacity' in
        subst (λ v. all v f.node stages' queues' rows' seats') at_worker
        (subst (λ n. all (suc (w - 1)) n stages' queues' rows' seats') at_node
        (subst (λ x. all (suc (w - 1)) (suc (f.node - 1)) x queues' rows' seats') (sym e1)
        (subst (λ y. all (suc (w - 1)) (suc (f.node - 1)) stages'' y rows' seats') (sym e2)
        (subst (λ z. all (suc (w - 1)) (suc (f.node - 1)) stages'' queues'' z seats') (sym e3)
        (subst (λ u. all (suc (w - 1)) (suc (f.node - 1)) stages'' queues'' rows'' u) (sym e4) st)))))

    any_stage : Stage
    any_stage = some_of (f.node - 1) stages (let lt = in_nodes in let all = h.stored.all_stages in omega arith)

    pub stands_one : (stages' : List Stage) (rows' : List (List (Option (Share O S L)))) (seats' : List (Option Flight)) (flying' room' capacity' : ℕ)
        → gives_next f.job ≡ true
        → ((d : Stage) → stages' ≡ slice_set stages (f.node - 1) (with_task (slice_index_or stages (f.node - 1) d) f.job))
        → ((d : List (Option (Share O S L))) → rows' ≡ slice_set rows (f.node - 1) (slice_set (slice_index_or rows (f.node - 1) d) (w - 1) None))
        → seats' ≡ slice_set seats (w - 1) (Some f)
        → flying' ≡ flying + 1 → room' + 2 ≤ told.room → capacity' ≡ capacity
        → Stands meaning local_is shared_is told.given (told.history ++ Claim w f.node f.job f.number ∷ []) infos stages' queues rows' seats' failed flying' room' capacity'
    stands_one stages' rows' seats' flying' room' capacity' gives e1 e3 e4 more less same =
        named stages' _ queues queues rows' _ seats' _ flying' room' capacity' (e1 any_stage) refl (e3 []) e4
        (after_one meaning local_is shared_is told.given told.history infos stages queues rows seats failed flying told.room capacity h (w - 1) (f.node - 1) f.job f.number can_at f any_stage flying' room' capacity' (sym at_node) refl refl gives more less same)

    pub stands_all : (stages' : List Stage) (rows' : List (List (Option (Share O S L)))) (seats' : List (Option Flight)) (flying' room' capacity' : ℕ)
        → takes_all f.job ≡ true
        → ((d : Stage) → stages' ≡ slice_set stages (f.node - 1) (with_task (slice_index_or stages (f.node - 1) d) f.job))
        → rows' ≡ slice_set rows (f.node - 1) []
        → seats' ≡ slice_set seats (w - 1) (Some f)
        → flying' ≡ flying + 1 → room' + 2 ≤ told.room → capacity' ≡ capacity
        → Stands meaning local_is shared_is told.given (told.history ++ Claim w f.node f.job f.number ∷ []) infos stages' queues rows' seats' failed flying' room' capacity'
    stands_all stages' rows' seats' flying' room' capacity' all e1 e3 e4 more less same =
        named stages' _ queues queues rows' _ seats' _ flying' room' capacity' (e1 any_stage) refl e3 e4
        (after_all meaning local_is shared_is told.given told.history infos stages queues rows seats failed flying told.room capacity h (w - 1) (f.node - 1) f.job f.number can_at f any_stage flying' room' capacity' (sym at_node) refl refl all more less same)

    pub stands_batch : (e : ℕ) (first : Waiting) (stages' : List Stage) (queues' : List Queue) (rows' : List (List (Option (Share O S L)))) (seats' : List (Option Flight)) (flying' room' capacity' : ℕ)
        → takes_batch f.job ≡ true → f.number ≡ 0
        → e ≡ reads_from (plan_of told.given) f.node ((state_of told).phase f.node)
        → ((d : Queue) → (q : Queue) × (queues' ≡ slice_set queues (e - 1) q) × IsShortened (slice_index_or queues (e - 1) d) first q)
        → ((d : Stage) → stages' ≡ slice_set stages (f.node - 1) (with_task (slice_index_or stages (f.node - 1) d) f.job))
        → ((d : List (Option (Share O S L))) → rows' ≡ slice_set rows (f.node - 1) (slice_set (slice_index_or rows (f.node - 1) d) (w - 1) None))
        → seats' ≡ slice_set seats (w - 1) (Some f)
        → flying' ≡ flying + 1 → room' + 2 ≤ told.room → capacity' ≡ capacity
        → Stands meaning local_is shared_is told.given (told.history ++ Claim w f.node f.job f.number ∷ []) infos stages' queues' rows' seats' failed flying' room' capacity'
    stands_batch e first stages' queues' rows' seats' flying' room' capacity' takes zero_is is cut e1 e3 e4 more less same =
        let P = plan_of told.given in
        let s = state_of told in
        let front = front_in takes e is in
        let at : suc (e - 1) ≡ e = let a = front.0 in omega arith in
        let d = some_of (e - 1) queues front.1 in
        let c = cut d in
        named stages' _ queues' _ rows' _ seats' _ flying' room' capacity' (e1 any_stage) c.1 (e3 []) e4
        (after_batch meaning local_is shared_is told.given told.history infos stages queues rows seats failed flying told.room capacity h (w - 1) (f.node - 1) f.job f.number can_at f any_stage d c.0 first (e - 1) flying' room' capacity' (sym at_node) refl refl takes zero_is
        (at ∙ (is ∙ ap (λ n. reads_from P n (s.phase n)) (sym at_node))) front.1 c.2 more less same)
