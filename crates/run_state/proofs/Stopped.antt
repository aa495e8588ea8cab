-- A fetch stops what it reads: the nodes below it end, and nothing waits on their edges any more.
use Rattle.std.proofs.Common.{◌≡◌, ℕ, zero, suc, ◌+◌, ◌-◌, ◌<◌, ◌≤◌, max, Bool, true, false, cond, nat_eq, nat_lt, ◌&&◌, ◌||◌, List, [], ◌∷◌, ◌++◌, length, map, Option, refl, sym, ap, subst, ◌∙◌, arith, slice_index_or, eqb-true}
use Rattle.std.proofs.lemmas.Bool.{both_ways}
use Rattle.scalar_value.specs.declared.value.Value.{Value}
use Rattle.scalar_value.specs.declared.value.ColType.{ColType}
use Rattle.backpressure.specs.Edges.{EdgeValue}
use Rattle.plan_machine.specs.declared.entry.Phase.{Phase}
use Rattle.plan_machine.specs.declared.entry.Phase.TheVariants.{Done}
use Rattle.plan_machine.specs.declared.entry.Entry.{Entry}
use Rattle.plan_machine.specs.declared.entry.Entry.TheVariants.{Stop}
use Rattle.plan_machine.specs.Batch.{Batch}
use Rattle.plan_machine.specs.Plan.{Plan as MachinePlan}
use Rattle.plan_machine.specs.State.{State, Task, tasks_at, opening}
use Rattle.plan_machine.specs.Enabled.{Enabled}
use Rattle.plan_machine.specs.After.{after, leads, below, stopped}
use Rattle.plan_machine.specs.History.{state_after, peak}
use Rattle.plan_nodes.specs.Operators.{OpMeaning}
use Rattle.task_work.specs.Sites.{Site}
use Rattle.task_work.specs.declared.work.Share.{Share}
use Rattle.task_work.specs.declared.work.Waiting.{Waiting}
use Rattle.plan_store.specs.declared.queue.Queue.{Queue}
use Rattle.plan_store.specs.declared.stage.Stage.{Stage}
use Rattle.plan_store.specs.declared.stage.NodeInfo.{NodeInfo}
use Rattle.plan_store.specs.declared.stage.Flight.{Flight}
use Rattle.plan_store.specs.Told.{Given, plan_of, site_of}
use Rattle.run_state.specs.Stored.{Stored, Stands, StageIs, QueueIs, RowIs, waiting_item, goes_on}
use Rattle.run_state.specs.Stages.{ended}
use Rattle.run_state.specs.Stopping.{IsEmptied, no_info, user_in, leads_in, is_below, AreEnded, AreEmptied}
use Rattle.run_state.proofs.Below.{same_where, within}
use Rattle.run_state.proofs.Seated.{sink_leads}
use Rattle.run_state.proofs.Growing.{with_most, standing}
use Rattle.run_state.proofs.Pausing.{most_stays}
use Rattle.run_state.proofs.Finishing.{stage_ended, row_ended}

-- ---- nodes below by what is stored of their users, and by the plan

module _ (P : MachinePlan (List Value)) (infos : List NodeInfo) (size : length infos ≡ P.sink) (users : (m : ℕ) → 0 < m → m < P.sink → P.user m ≡ user_in infos m) where
  leads_same : (k m n : ℕ) → leads_in infos k m n ≡ leads P k m n
  leads_same zero m n = refl
  leads_same (suc k) m n =
      ap (λ len. (nat_lt 0 m && nat_lt m len) && (nat_eq (user_in infos m) n || leads_in infos k (user_in infos m) n)) size
      ∙ same_where (nat_lt 0 m && nat_lt m P.sink) (nat_eq (user_in infos m) n || leads_in infos k (user_in infos m) n) (nat_eq (P.user m) n || leads P k (P.user m) n)
      (λ t.
      let w = within m P.sink t in
      ap (λ r. nat_eq (user_in infos m) n || r) (leads_same k (user_in infos m) n)
      ∙ ap (λ u. nat_eq u n || leads P k u n) (sym (users m w.0 w.1)))

  below_same : (m n : ℕ) → is_below infos m n ≡ below P m n
  below_same m n = leads_same (length infos) m n ∙ ap (λ k. leads P k m n) size

-- the sink is below no node
not_below : (P : MachinePlan (List Value)) (m n : ℕ) → below P m n ≡ true → nat_eq m P.sink ≡ true → ⊥
not_below P m n is last =
    both_ways (below P P.sink n) (sink_leads P P.sink n) (subst (λ j. below P j n ≡ true) (eqb-true m P.sink last) is)

-- ---- what is stored of a node, of an edge and of a row, below the fetch and elsewhere

stage_stopped : (P : MachinePlan (List Value)) (n : ℕ) (b : Bool) (phase : Phase) (next : ℕ) (built : List (List Value)) (streamed : List (Batch (List Value))) (at_node : ℕ) (st : Stage)
    → StageIs P n phase next built streamed at_node st → StageIs P n (cond b Done phase) next built streamed at_node (cond b (ended st) st)
stage_stopped P n true phase next built streamed at_node st h = stage_ended P n phase next built streamed at_node st h
stage_stopped P n false phase next built streamed at_node st h = h

queue_emptied : (columns : List ColType) (may : Bool) (places : ℕ) (waiting : List (Batch (List Value))) (paused : Bool) (most : ℕ) (old q : Queue)
    → IsEmptied old q → QueueIs columns may places waiting paused most old → QueueIs columns may places [] false most q
queue_emptied columns may places waiting paused most old q e h =
    record {
      items = ap (λ (ws : List Waiting). map waiting_item ws) e.items;
      each = λ k d lt. let none : length q.waiting.items ≡ 0 = ap length e.items in absurd (omega arith);
      room = subst (λ r. places ≤ r) (sym e.room) h.room;
      count = ap (λ (x : EdgeValue). x.waiting) e.edge;
      is_paused = ap (λ (x : EdgeValue). x.paused) e.edge;
      is_peak = ap (λ (x : EdgeValue). x.peak) e.edge ∙ h.is_peak;
    }

queue_stopped : (columns : List ColType) (may : Bool) (places : ℕ) (b : Bool) (waiting : List (Batch (List Value))) (paused : Bool) (most : ℕ) (old q : Queue)
    → (b ≡ true → IsEmptied old q) → (b ≡ false → q ≡ old)
    → QueueIs columns may places waiting paused most old → QueueIs columns may places (cond b [] waiting) (cond b false paused) most q
queue_stopped columns may places true waiting paused most old q emptied others h = queue_emptied columns may places waiting paused most old q (emptied refl) h
queue_stopped columns may places false waiting paused most old q emptied others h = subst (λ x. QueueIs columns may places waiting paused most x) (sym (others refl)) h

most_stopped : (b : Bool) (most : ℕ) (waiting : List (Batch (List Value))) → most ≡ max most (length waiting) → most ≡ max most (length (cond b [] waiting))
most_stopped true most waiting h = omega arith
most_stopped false most waiting h = h

module _ {O S L : Type 0}
    (meaning : O → OpMeaning)
    (local_is : OpMeaning → List ColType → L → List (Batch (List Value)) → Type 0)
    (shared_is : OpMeaning → List (List ColType) → S → List (List Value) → List (Batch (List Value)) → Type 0)
  where
    row_stopped : (v : Site) (last failed : Bool) (b : Bool) (q : Phase) (locals : ℕ → List (Batch (List Value))) (built : List (List Value)) (streamed : List (Batch (List Value))) (tasks : ℕ → Option (Task (List Value))) (n : ℕ) (row : List (Option (Share O S L)))
        → (b ≡ true → last ≡ true → ⊥)
        → RowIs meaning local_is shared_is v last failed q locals built streamed tasks n row → RowIs meaning local_is shared_is v last failed (cond b Done q) locals built streamed tasks n row
    row_stopped v last failed true q locals built streamed tasks n row other h = row_ended meaning local_is shared_is v last failed q locals built streamed tasks n row (λ e. absurd (other refl e)) h
    row_stopped v last failed false q locals built streamed tasks n row other h = h

    module _ (g : Given) where
      stored_stopped : (s : State (List Value)) (most : ℕ → ℕ) (infos : List NodeInfo) (stages stages' : List Stage) (queues queues' : List Queue) (rows : List (List (Option (Share O S L)))) (seats : List (Option Flight)) (failed : Bool) (flying : ℕ) (n : ℕ)
          → AreEnded infos n stages stages' → AreEmptied infos n queues queues'
          → Stored meaning local_is shared_is g s most infos stages queues rows seats failed flying
          → Stored meaning local_is shared_is g (stopped (plan_of g) s n) most infos stages' queues' rows seats failed flying
      stored_stopped s most infos stages stages' queues queues' rows seats failed flying n ends empties st =
          let P = plan_of g in
          let users : (m : ℕ) → 0 < m → m < P.sink → P.user m ≡ user_in infos m = λ m low up.
          let all = st.all_infos in
          let at : suc (m - 1) ≡ m = omega arith in
          subst (λ j. P.user j ≡ user_in infos m) at (st.infos_are (m - 1) no_info (omega arith)).user in
          let same : (m : ℕ) → is_below infos m n ≡ below P m n = λ m. below_same P infos st.all_infos users m n in
          record {
            all_infos = st.all_infos;
            all_stages = ends.size ∙ st.all_stages;
            all_queues = empties.size ∙ st.all_queues;
            all_rows = st.all_rows;
            all_seats = st.all_seats;
            infos_are = st.infos_are;
            stages_are = λ k d lt.
                let low : k < length stages = subst (λ m. k < m) ends.size lt in
                let is : slice_index_or stages' k d ≡ cond (below P (suc k) n) (ended (slice_index_or stages k d)) (slice_index_or stages k d) =
                ends.each k d low ∙ ap (λ b. cond b (ended (slice_index_or stages k d)) (slice_index_or stages k d)) (same (suc k)) in
                subst (λ x. StageIs P (suc k) (cond (below P (suc k) n) Done (s.phase (suc k))) (s.next (suc k)) (s.built (suc k)) (s.streamed (suc k)) (length (tasks_at P s (suc k))) x) (sym is)
                (stage_stopped P (suc k) (below P (suc k) n) (s.phase (suc k)) (s.next (suc k)) (s.built (suc k)) (s.streamed (suc k)) (length (tasks_at P s (suc k))) (slice_index_or stages k d) (st.stages_are k d low));
            queues_are = λ k d lt.
                let low : k < length queues = subst (λ m. k < m) empties.size lt in
                queue_stopped (site_of g (suc k)).columns (goes_on P (suc k)) (P.pause + P.workers) (below P (suc k) n) (s.waiting (suc k)) (s.paused (suc k)) (most (suc k)) (slice_index_or queues k d) (slice_index_or queues' k d)
                (λ t. empties.emptied k d low (same (suc k) ∙ t)) (λ f. empties.others k d low (same (suc k) ∙ f)) (st.queues_are k d low);
            rows_are = λ k d lt.
                row_stopped (site_of g (suc k)) (nat_eq (suc k) P.sink) s.failed (below P (suc k) n) (s.phase (suc k)) (s.locals (suc k)) (s.built (suc k)) (s.streamed (suc k)) s.tasks (suc k) (slice_index_or rows k d)
                (not_below P (suc k) n) (st.rows_are k d lt);
            seats_are = st.seats_are;
            failed_is = st.failed_is;
            flying_is = st.flying_is;
          }

      pub after_stop : (es : List Entry) (infos : List NodeInfo) (stages stages' : List Stage) (queues queues' : List Queue) (rows : List (List (Option (Share O S L)))) (seats : List (Option Flight)) (failed : Bool) (flying room room' capacity capacity' : ℕ) (n : ℕ)
          → Stands meaning local_is shared_is g es infos stages queues rows seats failed flying room capacity
          → Enabled (plan_of g) (state_after (plan_of g) es) (Stop n)
          → AreEnded infos n stages stages' → AreEmptied infos n queues queues'
          → room' + 1 ≤ room → capacity' ≡ capacity
          → Stands meaning local_is shared_is g (es ++ Stop n ∷ []) infos stages' queues' rows seats failed flying room' capacity'
      unfolding after
      after_stop es infos stages stages' queues queues' rows seats failed flying room room' capacity capacity' n h can ends empties less same =
          let P = plan_of g in
          let s = state_after P es in
          standing meaning local_is shared_is g es (Stop n) infos infos stages stages' queues queues' rows rows seats seats failed failed flying flying room room' capacity capacity' h can
          (with_most meaning local_is shared_is g (after P s (Stop n)) _ _ infos stages' queues' rows seats failed flying
          (λ e. most_stopped (below P e n) (peak P e es (opening P)) (s.waiting e) (most_stays meaning local_is shared_is g es e))
          (stored_stopped s _ infos stages stages' queues queues' rows seats failed flying n ends empties h.stored))
          (let f = h.fits in omega arith)
