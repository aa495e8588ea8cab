-- An edge is paused, or goes on.
use Rattle.std.proofs.Common.{◌≡◌, ℕ, suc, ◌+◌, ◌-◌, ◌<◌, ◌≤◌, max, Bool, true, List, [], ◌∷◌, ◌++◌, length, Option, refl, sym, subst, ◌∙◌, arith, slice_index_or, slice_set}
use Rattle.scalar_value.specs.declared.value.Value.{Value}
use Rattle.scalar_value.specs.declared.value.ColType.{ColType}
use Rattle.plan_machine.specs.declared.entry.Entry.{Entry}
use Rattle.plan_machine.specs.declared.entry.Entry.TheVariants.{Pause}
use Rattle.plan_machine.specs.Lists.{upd}
use Rattle.plan_machine.specs.Batch.{Batch}
use Rattle.plan_machine.specs.State.{State, opening}
use Rattle.plan_machine.specs.Enabled.{Enabled}
use Rattle.plan_machine.specs.After.{after}
use Rattle.plan_machine.specs.History.{state_after, peak}
use Rattle.plan_machine.proofs.Weigh.{upd-here, upd-else}
use Rattle.plan_nodes.specs.Operators.{OpMeaning}
use Rattle.task_work.specs.declared.work.Share.{Share}
use Rattle.plan_store.specs.declared.queue.Queue.{Queue}
use Rattle.plan_store.specs.declared.stage.Stage.{Stage}
use Rattle.plan_store.specs.declared.stage.NodeInfo.{NodeInfo}
use Rattle.plan_store.specs.declared.stage.Flight.{Flight}
use Rattle.plan_store.specs.Told.{Given, plan_of, site_of}
use Rattle.run_state.specs.Stored.{Stored, Stands, QueueIs, goes_on}
use Rattle.plan_store.specs.Queues.{with_paused}
use Rattle.std.proofs.lemmas.List.{length-set}
use Rattle.run_state.proofs.Held.{held_set}
use Rattle.plan_store.proofs.At.{some_of}
use Rattle.run_state.proofs.Growing.{peak_covers, with_most, standing}

queue_paused : (columns : List ColType) (may : Bool) (places : ℕ) (waiting : List (Batch (List Value))) (paused paused' : Bool) (most : ℕ) (q : Queue)
    → QueueIs columns may places waiting paused most q → QueueIs columns may places waiting paused' most (with_paused q paused')
queue_paused columns may places waiting paused paused' most q h =
    record { items = h.items; each = h.each; room = h.room; count = h.count; is_paused = refl; is_peak = h.is_peak }

module _ {O S L : Type 0}
    (meaning : O → OpMeaning)
    (local_is : OpMeaning → List ColType → L → List (Batch (List Value)) → Type 0)
    (shared_is : OpMeaning → List (List ColType) → S → List (List Value) → List (Batch (List Value)) → Type 0)
    (g : Given)
  where
    pub stored_paused : (s : State (List Value)) (most : ℕ → ℕ) (infos : List NodeInfo) (stages : List Stage) (queues : List Queue) (rows : List (List (Option (Share O S L)))) (seats : List (Option Flight)) (failed : Bool) (flying : ℕ) (p : ℕ) (paused : Bool) (d : Queue)
        → p < length queues
        → Stored meaning local_is shared_is g s most infos stages queues rows seats failed flying
        → Stored meaning local_is shared_is g (record s { paused = upd s.paused (suc p) paused }) most infos stages (slice_set queues p (with_paused (slice_index_or queues p d) paused)) rows seats failed flying
    stored_paused s most infos stages queues rows seats failed flying p paused d within st =
        let is : (n : ℕ) → Bool → Queue → Type 0 = λ n b q. QueueIs (site_of g n).columns (goes_on (plan_of g) n) ((plan_of g).pause + (plan_of g).workers) (s.waiting n) b (most n) q in
        record {
          all_infos = st.all_infos;
          all_stages = st.all_stages;
          all_queues = length-set queues p (with_paused (slice_index_or queues p d) paused) ∙ st.all_queues;
          all_rows = st.all_rows;
          all_seats = st.all_seats;
          infos_are = st.infos_are;
          stages_are = st.stages_are;
          queues_are =
              held_set (λ n q. is n (s.paused n) q) (λ n q. is n (upd s.paused (suc p) paused n) q)
              queues p (with_paused (slice_index_or queues p d) paused) st.queues_are
              (subst (λ b. is (suc p) b (with_paused (slice_index_or queues p d) paused)) (sym (upd-here s.paused (suc p) paused))
              (queue_paused (site_of g (suc p)).columns (goes_on (plan_of g) (suc p)) ((plan_of g).pause + (plan_of g).workers) (s.waiting (suc p)) (s.paused (suc p)) paused (most (suc p)) (slice_index_or queues p d) (st.queues_are p d within)))
              (λ n q ne h. subst (λ b. is n b q) (sym (upd-else s.paused (suc p) paused n ne)) h);
          rows_are = st.rows_are;
          seats_are = st.seats_are;
          failed_is = st.failed_is;
          flying_is = st.flying_is;
        }

    -- the peaks stay, since no batch came
    pub most_stays : (es : List Entry) (e : ℕ) → peak (plan_of g) e es (opening (plan_of g)) ≡ max (peak (plan_of g) e es (opening (plan_of g))) (length ((state_after (plan_of g) es).waiting e))
    most_stays es e = let h = peak_covers (plan_of g) es (opening (plan_of g)) e in omega arith

    after_pause_at : (es : List Entry) (infos : List NodeInfo) (stages : List Stage) (queues queues' : List Queue) (rows : List (List (Option (Share O S L)))) (seats : List (Option Flight)) (failed : Bool) (flying room room' capacity capacity' : ℕ) (p : ℕ)
        → Stands meaning local_is shared_is g es infos stages queues rows seats failed flying room capacity
        → Enabled (plan_of g) (state_after (plan_of g) es) (Pause (suc p))
        → ((d : Queue) → queues' ≡ slice_set queues p (with_paused (slice_index_or queues p d) true))
        → room' + 1 ≤ room → capacity' ≡ capacity
        → Stands meaning local_is shared_is g (es ++ Pause (suc p) ∷ []) infos stages queues' rows seats failed flying room' capacity'
    unfolding after
    after_pause_at es infos stages queues queues' rows seats failed flying room room' capacity capacity' p h can set less same =
        let s = state_after (plan_of g) es in
        let within : p < length queues = let all = h.stored.all_queues in let edge = can.1.0 in omega arith in
        let d = some_of p queues within in
        subst (λ qs. Stands meaning local_is shared_is g (es ++ Pause (suc p) ∷ []) infos stages qs rows seats failed flying room' capacity') (sym (set d))
        (standing meaning local_is shared_is g es (Pause (suc p)) infos infos stages stages queues (slice_set queues p (with_paused (slice_index_or queues p d) true)) rows rows seats seats failed failed flying flying room room' capacity capacity' h can
        (with_most meaning local_is shared_is g (after (plan_of g) s (Pause (suc p))) _ _ infos stages _ rows seats failed flying (most_stays es)
        (stored_paused s _ infos stages queues rows seats failed flying p true d within h.stored))
        (let f = h.fits in omega arith))

    pub after_pause : (es : List Entry) (infos : List NodeInfo) (stages : List Stage) (queues queues' : List Queue) (rows : List (List (Option (Share O S L)))) (seats : List (Option Flight)) (failed : Bool) (flying room room' capacity capacity' : ℕ) (e : ℕ)
        → Stands meaning local_is shared_is g es infos stages queues rows seats failed flying room capacity
        → Enabled (plan_of g) (state_after (plan_of g) es) (Pause e)
        → ((d : Queue) → queues' ≡ slice_set queues (e - 1) (with_paused (slice_index_or queues (e - 1) d) true))
        → room' + 1 ≤ room → capacity' ≡ capacity
        → Stands meaning local_is shared_is g (es ++ Pause e ∷ []) infos stages queues' rows seats failed flying room' capacity'
    after_pause es infos stages queues queues' rows seats failed flying room room' capacity capacity' e h can set less same =
        let edge : 1 ≤ e = can.1.0.0 in
        let at : suc (e - 1) ≡ e = omega arith in
        subst (λ n. Stands meaning local_is shared_is g (es ++ Pause n ∷ []) infos stages queues' rows seats failed flying room' capacity') at
        (after_pause_at es infos stages queues queues' rows seats failed flying room room' capacity capacity' (e - 1) h
        (subst (λ n. Enabled (plan_of g) (state_after (plan_of g) es) (Pause n)) (sym at) can) set less same)
