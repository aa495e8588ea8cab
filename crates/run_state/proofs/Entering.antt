-- What is stored once a worker has a task: its seat, its node's stage, and the shares of all nodes.
use Rattle.std.proofs.Common.{◌≡◌, ◌≢◌, ℕ, suc, ◌+◌, ◌<◌, ◌≤◌, Bool, true, nat_eq, List, [], length, Option, Some, None, refl, sym, ap, subst, ◌∙◌, ◌⊎◌, inl, inr, arith, slice_index_or, slice_set}
use Rattle.std.proofs.lemmas.List.{length-set, get_or-set_same, get_or-set_other}
use Rattle.scalar_value.specs.declared.value.Value.{Value}
use Rattle.scalar_value.specs.declared.value.ColType.{ColType}
use Rattle.plan_machine.specs.declared.entry.Phase.{Phase}
use Rattle.plan_machine.specs.declared.entry.Job.{Job}
use Rattle.plan_machine.specs.Lists.{upd, sum_to}
use Rattle.plan_machine.specs.Batch.{Batch}
use Rattle.plan_machine.specs.Plan.{Plan as MachinePlan, IsWorker}
use Rattle.plan_machine.specs.State.{State, Task, on_node}
use Rattle.plan_machine.proofs.Weigh.{upd-here, upd-else, same_or, weigh-one}
use Rattle.plan_machine.proofs.Sums.{sum_changed}
use Rattle.plan_machine.proofs.Flight.{flying, flying-more, flying-same, on_node-else}
use Rattle.plan_nodes.specs.Operators.{OpMeaning}
use Rattle.task_work.specs.Sites.{Site}
use Rattle.task_work.specs.declared.work.Share.{Share}
use Rattle.plan_store.specs.declared.queue.Queue.{Queue}
use Rattle.plan_store.specs.declared.stage.Stage.{Stage}
use Rattle.plan_store.specs.declared.stage.NodeInfo.{NodeInfo}
use Rattle.plan_store.specs.declared.stage.Flight.{Flight}
use Rattle.plan_store.specs.Told.{Given, plan_of, site_of}
use Rattle.run_state.specs.Stored.{Held, Stored, StageIs, QueueIs, SeatIs, goes_on, in_flight, takes_all, AllAway, Away, SlotStands, SlotIs, RowIs}
use Rattle.plan_store.specs.Taking.{with_task, next_by}
use Rattle.run_state.proofs.Held.{held_set}
use Rattle.run_state.proofs.Landing.{Tasks}

-- ---- counts

pub flying_more : (k w : ℕ) (ts : Tasks) (t : Task (List Value)) → 1 ≤ w → w ≤ k → ts w ≡ None → sum_to k (λ v. in_flight (upd ts w (Some t) v)) ≡ sum_to k (λ v. in_flight (ts v)) + 1
flying_more k w ts t lo hi free =
    let a = sum_changed k (λ v. in_flight (ts v)) (λ v. in_flight (upd ts w (Some t) v)) w lo hi (λ j ne. ap in_flight (upd-else ts w (Some t) j ne)) in
    let b = ap in_flight (upd-here ts w (Some t)) in
    let c = ap in_flight free in
    omega arith

more_here : (P : MachinePlan (List Value)) (ts : Tasks) (w n : ℕ) (t : Task (List Value)) → IsWorker P w → ts w ≡ None → t.node ≡ n → length (flying P (upd ts w (Some t)) n) ≡ length (flying P ts n) + 1
more_here P ts w n t i free e =
    let a = flying-more P (λ _. 1) ts w t n i free e in
    let b = weigh-one (flying P ts n) in
    let c = weigh-one (flying P (upd ts w (Some t)) n) in
    omega arith

same_else : (P : MachinePlan (List Value)) (ts : Tasks) (w n : ℕ) (t : Task (List Value)) → ts w ≡ None → t.node ≢ n → length (flying P ts n) ≡ length (flying P (upd ts w (Some t)) n)
same_else P ts w n t free ne = ap length (flying-same P ts w (Some t) n (ap (on_node P n) free ∙ sym (on_node-else P n t ne)))

-- ---- what shares are away for

-- who had a task still has it
still : (ts : Tasks) (w v : ℕ) (t u : Task (List Value)) → ts w ≡ None → ts v ≡ Some u → upd ts w (Some t) v ≡ Some u
still ts w v t u free busy =
    elim (same_or v w) [
      | inl q ↦ let e : None ≡ Some u = sym free ∙ (ap ts (sym q) ∙ busy) in cc
      | inr q ↦ upd-else ts w (Some t) v q ∙ busy
    ]

all_away_more : (ts : Tasks) (w n : ℕ) (t : Task (List Value)) → ts w ≡ None → AllAway ts n → AllAway (upd ts w (Some t)) n
all_away_more ts w n t free (v, u, is, at, all) = (v, u, still ts w v t u free is, at, all)

away_more : (ts : Tasks) (w n v : ℕ) (t : Task (List Value)) → ts w ≡ None → Away ts n v → Away (upd ts w (Some t)) n v
away_more ts w n v t free (inl (u, is, at)) = inl (u, still ts w v t u free is, at)
away_more ts w n v t free (inr all) = inr (all_away_more ts w n t free all)

module _ {O S L : Type 0}
    (meaning : O → OpMeaning)
    (local_is : OpMeaning → List ColType → L → List (Batch (List Value)) → Type 0)
    (shared_is : OpMeaning → List (List ColType) → S → List (List Value) → List (Batch (List Value)) → Type 0)
  where
    -- ---- rows of shares

    row_more : (v : Site) (last failed : Bool) (phase : Phase) (locals : ℕ → List (Batch (List Value))) (built : List (List Value)) (streamed : List (Batch (List Value))) (ts : Tasks) (w n : ℕ) (t : Task (List Value)) (row : List (Option (Share O S L)))
        → ts w ≡ None
        → RowIs meaning local_is shared_is v last failed phase locals built streamed ts n row
        → RowIs meaning local_is shared_is v last failed phase locals built streamed (upd ts w (Some t)) n row
    row_more v last failed phase locals built streamed ts w n t row free h =
        record {
          size = elim h.size [ inl s ↦ inl s | inr e ↦ inr (e.0, λ sound live. all_away_more ts w n t free (e.1 sound live)) ];
          slots = λ k within.
              let slot = h.slots k within in
              record { stands = slot.stands; here = λ sound live none. away_more ts w n (suc k) t free (slot.here sound live none) };
        }

    -- the worker takes its share
    pub row_taken : (v : Site) (last failed : Bool) (phase : Phase) (locals locals' : ℕ → List (Batch (List Value))) (built : List (List Value)) (streamed : List (Batch (List Value))) (ts : Tasks) (q n : ℕ) (t : Task (List Value)) (row : List (Option (Share O S L)))
        → length row ≡ v.workers → q < v.workers → ts (suc q) ≡ None → t.node ≡ n
        → ((k : ℕ) → k ≢ q → locals' (suc k) ≡ locals (suc k))
        → RowIs meaning local_is shared_is v last failed phase locals built streamed ts n row
        → RowIs meaning local_is shared_is v last failed phase locals' built streamed (upd ts (suc q) (Some t)) n (slice_set row q None)
    row_taken v last failed phase locals locals' built streamed ts q n t row full at_seat free at_node others h =
        record { size = inl (length-set row q None ∙ full); slots = λ k within. by k within (same_or k q) }
      where
        is : ℕ → Option (Share O S L) → Type 0
        is k slot = SlotIs meaning local_is shared_is v last failed phase (locals' (suc k)) built streamed (Away (upd ts (suc q) (Some t)) n (suc k)) slot

        by : (k : ℕ) → k < v.workers → (k ≡ q) ⊎ (k ≢ q) → is k (slice_index_or (slice_set row q None) k None)
        by k within (inl e) =
            subst (λ j. is j (slice_index_or (slice_set row q None) j None)) (sym e)
            (subst (λ x. is q x) (sym (get_or-set_same row q None None (omega arith)))
            (record { stands = tt; here = λ sound live none. inl (t, upd-here ts (suc q) (Some t), at_node) }))
        by k within (inr ne) =
            let slot = h.slots k within in
            subst (λ x. is k x) (sym (get_or-set_other row q k None None ne))
            (record {
              stands = subst (λ taken. SlotStands meaning local_is shared_is v last phase taken built streamed (slice_index_or row k None)) (sym (others k ne)) slot.stands;
              here = λ sound live none. away_more ts (suc q) n (suc k) t free (slot.here sound live none);
            })

    -- the worker takes the shares of all
    pub row_gone : (v : Site) (last failed : Bool) (phase : Phase) (locals' : ℕ → List (Batch (List Value))) (built : List (List Value)) (streamed : List (Batch (List Value))) (ts : Tasks) (w n : ℕ) (t : Task (List Value))
        → t.node ≡ n → takes_all t.job ≡ true
        → RowIs meaning local_is shared_is v last failed phase locals' built streamed (upd ts w (Some t)) n []
    row_gone v last failed phase locals' built streamed ts w n t at_node all =
        let away : AllAway (upd ts w (Some t)) n = (w, t, upd-here ts w (Some t), at_node, all) in
        record {
          size = inr (refl, λ sound live. away);
          slots = λ k within. record { stands = tt; here = λ sound live none. inr away };
        }

    -- ---- the whole

    stage_more : (P : MachinePlan (List Value)) (n : ℕ) (phase : Phase) (next next' : ℕ) (built : List (List Value)) (streamed : List (Batch (List Value))) (few many : ℕ) (job : Job) (st : Stage)
        → many ≡ few + 1 → next' ≡ next_by job next
        → StageIs P n phase next built streamed few st → StageIs P n phase next' built streamed many (with_task st job)
    stage_more P n phase next next' built streamed few many job st e f h =
        record { is_phase = h.is_phase; is_next = ap (next_by job) h.is_next ∙ sym f; emits = h.emits; ends = h.ends; busy = let b = h.busy in omega arith }

    module _ (g : Given) where
      pub stored_claimed : (s : State (List Value)) (next' : ℕ → ℕ) (waiting' : ℕ → List (Batch (List Value))) (locals' : ℕ → ℕ → List (Batch (List Value))) (most most' : ℕ → ℕ) (infos : List NodeInfo) (stages : List Stage) (queues queues' : List Queue) (rows : List (List (Option (Share O S L)))) (row' : List (Option (Share O S L))) (seats : List (Option Flight)) (failed : Bool) (flying flying' : ℕ) (q p : ℕ) (f : Flight) (t : Task (List Value)) (d : Stage)
          → IsWorker (plan_of g) (suc q) → s.tasks (suc q) ≡ None → t.node ≡ suc p → p < length stages → flying' ≡ flying + 1
          → (f.node ≡ t.node) × (f.job ≡ t.job) × (f.number ≡ t.number)
          → next' (suc p) ≡ next_by f.job (s.next (suc p))
          → ((n : ℕ) → n ≢ suc p → next' n ≡ s.next n)
          → ((n : ℕ) → n ≢ suc p → locals' n ≡ s.locals n)
          → length queues' ≡ length queues
          → Held (λ n q. QueueIs (site_of g n).columns (goes_on (plan_of g) n) ((plan_of g).pause + (plan_of g).workers) (waiting' n) (s.paused n) (most' n) q) queues'
          → RowIs meaning local_is shared_is (site_of g (suc p)) (nat_eq (suc p) (plan_of g).sink) s.failed (s.phase (suc p)) (locals' (suc p)) (s.built (suc p)) (s.streamed (suc p)) (upd s.tasks (suc q) (Some t)) (suc p) row'
          → Stored meaning local_is shared_is g s most infos stages queues rows seats failed flying
          → Stored meaning local_is shared_is g (record s { next = next'; waiting = waiting'; locals = locals'; tasks = upd s.tasks (suc q) (Some t) }) most' infos (slice_set stages p (with_task (slice_index_or stages p d) f.job)) queues' (slice_set rows p row') (slice_set seats q (Some f)) failed flying'
      stored_claimed s next' waiting' locals' most most' infos stages queues queues' rows row' seats failed fl fl' q p f t d worker free at within more is_seat here_next else_next else_locals same_queues queues_are row_is st =
          let P = plan_of g in
          let ts = s.tasks in
          let ts' = upd ts (suc q) (Some t) in
          let is : (n : ℕ) → ℕ → ℕ → Stage → Type 0 = λ n next many x. StageIs P n (s.phase n) next (s.built n) (s.streamed n) many x in
          let row_at : (n : ℕ) → (ℕ → List (Batch (List Value))) → Tasks → List (Option (Share O S L)) → Type 0 = λ n locals tasks row. RowIs meaning local_is shared_is (site_of g n) (nat_eq n P.sink) s.failed (s.phase n) locals (s.built n) (s.streamed n) tasks n row in
          record {
            all_infos = st.all_infos;
            all_stages = length-set stages p (with_task (slice_index_or stages p d) f.job) ∙ st.all_stages;
            all_queues = same_queues ∙ st.all_queues;
            all_rows = length-set rows p row' ∙ st.all_rows;
            all_seats = length-set seats q (Some f) ∙ st.all_seats;
            infos_are = st.infos_are;
            stages_are =
                held_set (λ n x. is n (s.next n) (length (flying P ts n)) x) (λ n x. is n (next' n) (length (flying P ts' n)) x)
                stages p (with_task (slice_index_or stages p d) f.job) st.stages_are
                (stage_more P (suc p) (s.phase (suc p)) (s.next (suc p)) (next' (suc p)) (s.built (suc p)) (s.streamed (suc p)) (length (flying P ts (suc p))) (length (flying P ts' (suc p))) f.job (slice_index_or stages p d)
                (more_here P ts (suc q) (suc p) t worker free at) here_next (st.stages_are p d within))
                (λ n x ne h. subst (λ many. is n (next' n) many x) (same_else P ts (suc q) n t free (λ e. ne (sym e ∙ at))) (subst (λ k. is n k (length (flying P ts n)) x) (sym (else_next n ne)) h));
            queues_are = queues_are;
            rows_are =
                held_set (λ n row. row_at n (s.locals n) ts row) (λ n row. row_at n (locals' n) ts' row) rows p row' st.rows_are row_is
                (λ n row ne h. subst (λ l. row_at n l ts' row) (sym (else_locals n ne))
                (row_more (site_of g n) (nat_eq n P.sink) s.failed (s.phase n) (s.locals n) (s.built n) (s.streamed n) ts (suc q) n t row free h));
            seats_are =
                held_set (λ w x. SeatIs (ts w) x) (λ w x. SeatIs (ts' w) x) seats q (Some f) st.seats_are
                (subst (λ o. SeatIs o (Some f)) (sym (upd-here ts (suc q) (Some t))) is_seat)
                (λ w x ne h. subst (λ o. SeatIs o x) (sym (upd-else ts (suc q) (Some t) w ne)) h);
            failed_is = st.failed_is;
            flying_is = let a = flying_more P.workers (suc q) ts t worker.0 worker.1 free in let b = st.flying_is in omega arith;
          }
