-- A node ends.
use Rattle.std.proofs.Common.{◌≡◌, ℕ, suc, ◌+◌, ◌-◌, ◌<◌, ◌≤◌, Bool, true, false, nat_eq, List, [], ◌∷◌, ◌++◌, length, ◌⊎◌, inl, inr, Option, Some, None, refl, sym, subst, ◌∙◌, arith, slice_index_or, slice_set, eqb-true}
use Rattle.scalar_value.specs.declared.value.Value.{Value}
use Rattle.scalar_value.specs.declared.value.ColType.{ColType}
use Rattle.plan_machine.specs.declared.entry.Phase.{Phase}
use Rattle.plan_machine.specs.declared.entry.Phase.TheVariants.{Emitting, Folding, Streaming, Tailing, Sealed, Done}
use Rattle.plan_machine.specs.declared.entry.Entry.{Entry}
use Rattle.plan_machine.specs.declared.entry.Entry.TheVariants.{Finish}
use Rattle.plan_machine.specs.Lists.{upd}
use Rattle.plan_machine.specs.Batch.{Batch}
use Rattle.plan_machine.specs.Plan.{Plan as MachinePlan}
use Rattle.plan_machine.specs.State.{State, Task, tasks_at}
use Rattle.plan_machine.specs.Enabled.{Enabled, MayFinish}
use Rattle.plan_machine.specs.After.{after}
use Rattle.plan_machine.specs.History.{state_after}
use Rattle.plan_machine.specs.WellFormed.{WellFormed}
use Rattle.plan_machine.proofs.Weigh.{upd-here, upd-else}
use Rattle.plan_nodes.specs.Operators.{OpMeaning}
use Rattle.task_work.specs.Sites.{Site}
use Rattle.task_work.specs.declared.work.Share.{Share}
use Rattle.task_work.specs.declared.work.Share.TheVariants as share
use Rattle.plan_store.specs.declared.queue.Queue.{Queue}
use Rattle.plan_store.specs.declared.stage.Stage.{Stage}
use Rattle.plan_store.specs.declared.stage.NodeInfo.{NodeInfo}
use Rattle.plan_store.specs.declared.stage.Flight.{Flight}
use Rattle.plan_store.specs.Told.{Given, plan_of, site_of}
use Rattle.run_state.specs.Known.{Known}
use Rattle.run_state.specs.Stored.{Stored, Stands, StageIs, RowIs, SlotStands, PartStands, is_live}
use Rattle.run_state.specs.Stages.{ended}
use Rattle.std.proofs.lemmas.List.{length-set}
use Rattle.run_state.proofs.Held.{held_set, held_else}
use Rattle.plan_store.proofs.At.{some_of}
use Rattle.run_state.proofs.Growing.{with_most, standing}
use Rattle.run_state.proofs.Pausing.{most_stays}
use Rattle.run_state.proofs.Known.{known}

-- a sink that ends was Sealed, or has streamed all
sink_ends : {R : Type 0} (P : MachinePlan R) (s : State R) → WellFormed P → Known P s → (q : Phase) → s.phase P.sink ≡ q → MayFinish P s P.sink q → (q ≡ Sealed) ⊎ (q ≡ Streaming)
sink_ends P s W K Emitting at may = let a : (P.node P.sink).start ≡ Emitting = K.emitting P.sink (W.sink_node, omega arith) at in let b = W.sink.folds in let no = sym a ∙ b in cc
sink_ends P s W K Folding at may = absurd may
sink_ends P s W K Streaming at may = inr refl
sink_ends P s W K Tailing at may = let a = K.tailing P.sink (W.sink_node, omega arith) at in let b = W.sink.only_folds.1 in let no = sym a ∙ b in cc
sink_ends P s W K Sealed at may = inl refl
sink_ends P s W K Done at may = absurd may

pub stage_ended : (P : MachinePlan (List Value)) (n : ℕ) (phase : Phase) (next : ℕ) (built : List (List Value)) (streamed : List (Batch (List Value))) (at_node : ℕ) (st : Stage)
    → StageIs P n phase next built streamed at_node st → StageIs P n Done next built streamed at_node (ended st)
stage_ended P n phase next built streamed at_node st h =
    record { is_phase = refl; is_next = h.is_next; emits = λ e. cc; ends = λ e. cc; busy = h.busy }

module _ {O S L : Type 0}
    (meaning : O → OpMeaning)
    (local_is : OpMeaning → List ColType → L → List (Batch (List Value)) → Type 0)
    (shared_is : OpMeaning → List (List ColType) → S → List (List Value) → List (Batch (List Value)) → Type 0)
  where
    live_before : (last : Bool) (q : Phase) → is_live meaning local_is shared_is last Done ≡ true → is_live meaning local_is shared_is last q ≡ true
    live_before last Emitting e = refl
    live_before last Folding e = refl
    live_before last Streaming e = refl
    live_before last Tailing e = refl
    live_before last Sealed e = refl
    live_before last Done e = e

    slot_ended : (v : Site) (last : Bool) (q : Phase) (taken : List (Batch (List Value))) (built : List (List Value)) (streamed : List (Batch (List Value))) (slot : Option (Share O S L))
        → (last ≡ true → (q ≡ Sealed) ⊎ (q ≡ Streaming))
        → SlotStands meaning local_is shared_is v last q taken built streamed slot → SlotStands meaning local_is shared_is v last Done taken built streamed slot
    slot_ended v last q taken built streamed None was h = tt
    slot_ended v false q taken built streamed (Some p) was h = tt
    slot_ended v true q taken built streamed (Some p) was h = by p (was refl) h
      where
        sealed : (p : Share O S L) → PartStands meaning local_is shared_is v true Sealed taken built streamed p → PartStands meaning local_is shared_is v true Done taken built streamed p
        sealed (share.Table t) h = h
        sealed (share.Part p) h = h

        streaming : (p : Share O S L) → PartStands meaning local_is shared_is v true Streaming taken built streamed p → PartStands meaning local_is shared_is v true Done taken built streamed p
        streaming (share.Table t) h = h
        streaming (share.Part p) h = h.is_shared

        by : (p : Share O S L) → (q ≡ Sealed) ⊎ (q ≡ Streaming) → PartStands meaning local_is shared_is v true q taken built streamed p → PartStands meaning local_is shared_is v true Done taken built streamed p
        by p (inl e) h = sealed p (subst (λ (x : Phase). PartStands meaning local_is shared_is v true x taken built streamed p) e h)
        by p (inr e) h = streaming p (subst (λ (x : Phase). PartStands meaning local_is shared_is v true x taken built streamed p) e h)

    pub row_ended : (v : Site) (last failed : Bool) (q : Phase) (locals : ℕ → List (Batch (List Value))) (built : List (List Value)) (streamed : List (Batch (List Value))) (tasks : ℕ → Option (Task (List Value))) (n : ℕ) (row : List (Option (Share O S L)))
        → (last ≡ true → (q ≡ Sealed) ⊎ (q ≡ Streaming))
        → RowIs meaning local_is shared_is v last failed q locals built streamed tasks n row → RowIs meaning local_is shared_is v last failed Done locals built streamed tasks n row
    row_ended v last failed q locals built streamed tasks n row was h =
        record {
          size = elim h.size [ inl e ↦ inl e | inr e ↦ inr (e.0, λ sound live. e.1 sound (live_before last q live)) ];
          slots = λ k lt.
              let x = h.slots k lt in
              record {
                stands = slot_ended v last q (locals (suc k)) built streamed (slice_index_or row k None) was x.stands;
                here = λ sound live none. x.here sound (live_before last q live) none;
              };
        }

    module _ (g : Given) where
      stored_finished : (s : State (List Value)) (most : ℕ → ℕ) (infos : List NodeInfo) (stages : List Stage) (queues : List Queue) (rows : List (List (Option (Share O S L)))) (seats : List (Option Flight)) (failed : Bool) (flying : ℕ) (p : ℕ) (d : Stage)
          → p < length stages
          → (suc p ≡ (plan_of g).sink → (s.phase (suc p) ≡ Sealed) ⊎ (s.phase (suc p) ≡ Streaming))
          → Stored meaning local_is shared_is g s most infos stages queues rows seats failed flying
          → Stored meaning local_is shared_is g (record s { phase = upd s.phase (suc p) Done }) most infos (slice_set stages p (ended (slice_index_or stages p d))) queues rows seats failed flying
      stored_finished s most infos stages queues rows seats failed flying p d within was st =
          let P = plan_of g in
          let is : (n : ℕ) → Phase → Stage → Type 0 = λ n q x. StageIs P n q (s.next n) (s.built n) (s.streamed n) (length (tasks_at P s n)) x in
          let row_is : (n : ℕ) → Phase → List (Option (Share O S L)) → Type 0 = λ n q row. RowIs meaning local_is shared_is (site_of g n) (nat_eq n P.sink) s.failed q (s.locals n) (s.built n) (s.streamed n) s.tasks n row in
          record {
            all_infos = st.all_infos;
            all_stages = length-set stages p (ended (slice_index_or stages p d)) ∙ st.all_stages;
            all_queues = st.all_queues;
            all_rows = st.all_rows;
            all_seats = st.all_seats;
            infos_are = st.infos_are;
            stages_are =
                held_set (λ n x. is n (s.phase n) x) (λ n x. is n (upd s.phase (suc p) Done n) x)
                stages p (ended (slice_index_or stages p d)) st.stages_are
                (subst (λ q. is (suc p) q (ended (slice_index_or stages p d))) (sym (upd-here s.phase (suc p) Done))
                (stage_ended P (suc p) (s.phase (suc p)) (s.next (suc p)) (s.built (suc p)) (s.streamed (suc p)) (length (tasks_at P s (suc p))) (slice_index_or stages p d) (st.stages_are p d within)))
                (λ n x ne h. subst (λ q. is n q x) (sym (upd-else s.phase (suc p) Done n ne)) h);
            queues_are = st.queues_are;
            rows_are =
                held_else (λ n x. row_is n (s.phase n) x) (λ n x. row_is n (upd s.phase (suc p) Done n) x) rows (suc p) st.rows_are
                (λ row h. subst (λ q. row_is (suc p) q row) (sym (upd-here s.phase (suc p) Done))
                (row_ended (site_of g (suc p)) (nat_eq (suc p) P.sink) s.failed (s.phase (suc p)) (s.locals (suc p)) (s.built (suc p)) (s.streamed (suc p)) s.tasks (suc p) row (λ e. was (eqb-true (suc p) P.sink e)) h))
                (λ n row ne h. subst (λ q. row_is n q row) (sym (upd-else s.phase (suc p) Done n ne)) h);
            seats_are = st.seats_are;
            failed_is = st.failed_is;
            flying_is = st.flying_is;
          }

      after_finish_at : (es : List Entry) (infos : List NodeInfo) (stages stages' : List Stage) (queues : List Queue) (rows : List (List (Option (Share O S L)))) (seats : List (Option Flight)) (failed : Bool) (flying room room' capacity capacity' : ℕ) (p : ℕ)
          → Stands meaning local_is shared_is g es infos stages queues rows seats failed flying room capacity
          → Enabled (plan_of g) (state_after (plan_of g) es) (Finish (suc p))
          → ((d : Stage) → stages' ≡ slice_set stages p (ended (slice_index_or stages p d)))
          → room' + 1 ≤ room → capacity' ≡ capacity
          → Stands meaning local_is shared_is g (es ++ Finish (suc p) ∷ []) infos stages' queues rows seats failed flying room' capacity'
      unfolding after
      after_finish_at es infos stages stages' queues rows seats failed flying room room' capacity capacity' p h can set less same =
          let s = state_after (plan_of g) es in
          let within : p < length stages = let all = h.stored.all_stages in let node = can.1 in omega arith in
          let d = some_of p stages within in
          let K = known (plan_of g) h.lawful h.well es h.legal can.0 in
          let was : suc p ≡ (plan_of g).sink → (s.phase (suc p) ≡ Sealed) ⊎ (s.phase (suc p) ≡ Streaming) =
          λ e. subst (λ n. MayFinish (plan_of g) s n (s.phase n) → (s.phase n ≡ Sealed) ⊎ (s.phase n ≡ Streaming)) (sym e)
          (sink_ends (plan_of g) s h.well K (s.phase (plan_of g).sink) refl) can.3 in
          subst (λ sts. Stands meaning local_is shared_is g (es ++ Finish (suc p) ∷ []) infos sts queues rows seats failed flying room' capacity') (sym (set d))
          (standing meaning local_is shared_is g es (Finish (suc p)) infos infos stages (slice_set stages p (ended (slice_index_or stages p d))) queues queues rows rows seats seats failed failed flying flying room room' capacity capacity' h can
          (with_most meaning local_is shared_is g (after (plan_of g) s (Finish (suc p))) _ _ infos _ queues rows seats failed flying (most_stays meaning local_is shared_is g es)
          (stored_finished s _ infos stages queues rows seats failed flying p d within was h.stored))
          (let f = h.fits in omega arith))

      pub after_finish : (es : List Entry) (infos : List NodeInfo) (stages stages' : List Stage) (queues : List Queue) (rows : List (List (Option (Share O S L)))) (seats : List (Option Flight)) (failed : Bool) (flying room room' capacity capacity' : ℕ) (n : ℕ)
          → Stands meaning local_is shared_is g es infos stages queues rows seats failed flying room capacity
          → Enabled (plan_of g) (state_after (plan_of g) es) (Finish n)
          → ((d : Stage) → stages' ≡ slice_set stages (n - 1) (ended (slice_index_or stages (n - 1) d)))
          → room' + 1 ≤ room → capacity' ≡ capacity
          → Stands meaning local_is shared_is g (es ++ Finish n ∷ []) infos stages' queues rows seats failed flying room' capacity'
      after_finish es infos stages stages' queues rows seats failed flying room room' capacity capacity' n h can set less same =
          let node : 1 ≤ n = can.1.0 in
          let at : suc (n - 1) ≡ n = omega arith in
          subst (λ m. Stands meaning local_is shared_is g (es ++ Finish m ∷ []) infos stages' queues rows seats failed flying room' capacity') at
          (after_finish_at es infos stages stages' queues rows seats failed flying room room' capacity capacity' (n - 1) h
          (subst (λ m. Enabled (plan_of g) (state_after (plan_of g) es) (Finish m)) (sym at) can) set less same)
