-- A delivery that brings the shares of all workers, and begins a phase.
use Rattle.std.proofs.Common.{◌≡◌, ℕ, zero, suc, ◌-◌, ◌<◌, ◌≤◌, Bool, List, [], ◌∷◌, ◌++◌, length, Option, Some, None, refl, sym, ap, subst, ◌∙◌, inl, arith, slice_index_or, slice_set}
use Rattle.std.proofs.lemmas.List.{length-set, set-set, get_or-set_same}
use Rattle.scalar_value.specs.declared.value.Value.{Value}
use Rattle.scalar_value.specs.declared.value.ColType.{ColType}
use Rattle.plan_machine.specs.declared.entry.Phase.{Phase}
use Rattle.plan_machine.specs.declared.entry.Entry.{Entry}
use Rattle.plan_machine.specs.declared.entry.Entry.TheVariants.{Deliver}
use Rattle.plan_machine.specs.Lists.{upd, gather, weigh}
use Rattle.plan_machine.specs.Batch.{Batch}
use Rattle.plan_machine.specs.Plan.{IsWorker}
use Rattle.plan_machine.specs.State.{Task}
use Rattle.plan_machine.specs.After.{after}
use Rattle.plan_machine.specs.History.{state_after}
use Rattle.plan_machine.proofs.Weigh.{gather-none}
use Rattle.plan_machine.proofs.Flight.{flying, nil-of-weigh}
use Rattle.plan_nodes.specs.Operators.{OpMeaning, Each, flat}
use Rattle.task_work.specs.Sites.{Site}
use Rattle.task_work.specs.declared.work.Share.{Share}
use Rattle.task_work.specs.declared.work.Share.TheVariants as share
use Rattle.task_work.specs.declared.work.Part.{Part}
use Rattle.task_work.specs.Work.{IsPart, IsPartOf, IsRow}
use Rattle.plan_store.specs.declared.queue.Queue.{Queue}
use Rattle.plan_store.specs.declared.stage.Stage.{Stage}
use Rattle.plan_store.specs.declared.stage.NodeInfo.{NodeInfo}
use Rattle.plan_store.specs.declared.stage.Flight.{Flight}
use Rattle.plan_store.specs.Told.{Given, plan_of}
use Rattle.run_state.specs.Stored.{StageIs, RowIs, PartStands, SlotStands, Stands}
use Rattle.run_state.proofs.Growing.{with_most}
use Rattle.run_state.proofs.Landing.{Tasks}
use Rattle.run_state.proofs.Delivering.{RowAt, Others, peaks, peak_stays, rows_landed, stored_landed, departing, delivered_stands}

-- lists that together are none are none
pub gather_nil : {A : Type 0} (n w : ℕ) (f : ℕ → List A) → 1 ≤ w → w ≤ n → gather n f ≡ [] → f w ≡ []
gather_nil {A} n w f low high none =
    let a = gather-none (λ (x : A). 1) n w f low high in
    let b = ap (weigh {A = A} (λ x. 1)) none in
    nil-of-weigh (f w) (omega arith)

first_nil : {A : Type 0} (xs ys : List A) → xs ++ ys ≡ [] → (xs ≡ []) × (ys ≡ [])
first_nil [] ys e = (refl, e)
first_nil (x ∷ xs) ys e = cc

-- two writes of one place
pub written_twice : {A : Type 0} (xs ys zs : List A) (p : ℕ) (f h : A → A) → p < length xs
    → ((d : A) → ys ≡ slice_set xs p (f (slice_index_or xs p d)))
    → ((d : A) → zs ≡ slice_set ys p (h (slice_index_or ys p d)))
    → (d : A) → zs ≡ slice_set xs p (h (f (slice_index_or xs p d)))
written_twice {A} xs ys zs p f h within one two d =
    let x : A = f (slice_index_or xs p d) in
    let read : slice_index_or ys p d ≡ x = ap (λ (l : List A). slice_index_or l p d) (one d) ∙ get_or-set_same xs p x d within in
    two d ∙ ap (λ (y : A). slice_set ys p (h y)) read ∙ ap (λ (l : List A). slice_set l p (h x)) (one d) ∙ set-set xs p x (h x)

module _ {O S L : Type 0}
    (meaning : O → OpMeaning)
    (local_is : OpMeaning → List ColType → L → List (Batch (List Value)) → Type 0)
    (shared_is : OpMeaning → List (List ColType) → S → List (List Value) → List (Batch (List Value)) → Type 0)
  where
    -- each share of a row of which no batch was taken
    part_of : (v : Site) (kinds : List ColType) (built : List (List Value)) (streamed : List (Batch (List Value))) (row : List (Option (Share O S L))) (lists : List (List (Batch (List Value)))) (k : ℕ)
        → Each (IsPartOf meaning local_is shared_is v kinds built streamed) row lists → flat lists ≡ [] → k < length row
        → IsPartOf meaning local_is shared_is v kinds built streamed (slice_index_or row k None) []
    part_of v kinds built streamed [] lists k each none within = absurd (omega arith)
    part_of v kinds built streamed (x ∷ xs) [] k each none within = absurd each
    part_of v kinds built streamed (x ∷ xs) (y ∷ ys) zero each none within = subst (λ l. IsPartOf meaning local_is shared_is v kinds built streamed x l) (first_nil y (flat ys) none).0 each.0
    part_of v kinds built streamed (x ∷ xs) (y ∷ ys) (suc k) each none within = part_of v kinds built streamed xs ys k each.1 (first_nil y (flat ys) none).1 (omega arith)

    slot_stands : (v : Site) (last : Bool) (phase : Phase) (taken : List (Batch (List Value))) (built built' : List (List Value)) (streamed streamed' : List (Batch (List Value))) (kinds : List ColType) (slot : Option (Share O S L))
        → IsPartOf meaning local_is shared_is v kinds built' streamed' slot []
        → ((p : Part O S L) → IsPart meaning local_is shared_is v kinds [] built' streamed' p → PartStands meaning local_is shared_is v last phase taken built streamed (share.Part p))
        → SlotStands meaning local_is shared_is v last phase taken built streamed slot × (slot ≡ None → ⊥)
    slot_stands v last phase taken built built' streamed streamed' kinds None is to = absurd is
    slot_stands v last phase taken built built' streamed streamed' kinds (Some (share.Table t)) is to = absurd is
    slot_stands v last phase taken built built' streamed streamed' kinds (Some (share.Part p)) is to = (to p is, λ e. cc)

    -- a row that was brought back whole
    pub row_new : (v : Site) (last failed : Bool) (phase : Phase) (locals : ℕ → List (Batch (List Value))) (built built' : List (List Value)) (streamed streamed' : List (Batch (List Value))) (tasks : Tasks) (n : ℕ) (kinds : List ColType) (row : List (Option (Share O S L)))
        → IsRow meaning local_is shared_is v kinds [] built' streamed' row
        → ((k : ℕ) (p : Part O S L) → k < v.workers → IsPart meaning local_is shared_is v kinds [] built' streamed' p → PartStands meaning local_is shared_is v last phase (locals (suc k)) built streamed (share.Part p))
        → RowIs meaning local_is shared_is v last failed phase locals built streamed tasks n row
    row_new v last failed phase locals built built' streamed streamed' tasks n kinds row is to =
        record {
          size = inl is.workers;
          slots = λ k within.
              let all = is.workers in
              let part = part_of v kinds built' streamed' row is.lists k is.parts is.all (omega arith) in
              let slot = slot_stands v last phase (locals (suc k)) built built' streamed streamed' kinds (slice_index_or row k None) part (λ p. to k p within) in
              record { stands = slot.0; here = λ sound live none. absurd (slot.1 none) };
        }

    module _ (g : Given) where
      -- the node begins a phase, with the shares of all workers in their place
      pub whole_at : (es : List Entry) (phase : ℕ → Phase) (built : ℕ → List (List Value)) (streamed : ℕ → List (Batch (List Value))) (infos : List NodeInfo) (stages stages' : List Stage) (queues : List Queue) (rows rows' : List (List (Option (Share O S L)))) (row' : List (Option (Share O S L))) (seats seats' : List (Option Flight)) (failed : Bool) (count count' room capacity capacity' q p : ℕ) (t : Task (List Value)) (st' : Stage)
          → Stands meaning local_is shared_is g es infos stages queues rows seats failed count room capacity
          → IsWorker (plan_of g) (suc q) → (state_after (plan_of g) es).tasks (suc q) ≡ Some t → t.node ≡ suc p
          → after (plan_of g) (state_after (plan_of g) es) (Deliver (suc q)) ≡ record (state_after (plan_of g) es) { phase = phase; built = built; streamed = streamed; tasks = upd (state_after (plan_of g) es).tasks (suc q) None }
          → Others meaning local_is shared_is g (state_after (plan_of g) es) phase (state_after (plan_of g) es).locals built streamed (suc p)
          → StageIs (plan_of g) (suc p) (phase (suc p)) ((state_after (plan_of g) es).next (suc p)) (built (suc p)) (streamed (suc p)) (length (flying (plan_of g) (upd (state_after (plan_of g) es).tasks (suc q) None) (suc p))) st'
          → RowAt meaning local_is shared_is g (suc p) (state_after (plan_of g) es).failed (phase (suc p)) ((state_after (plan_of g) es).locals (suc p)) (built (suc p)) (streamed (suc p)) (upd (state_after (plan_of g) es).tasks (suc q) None) row'
          → seats' ≡ slice_set seats q None → stages' ≡ slice_set stages p st' → rows' ≡ slice_set rows p row'
          → count' ≡ count - 1 → capacity' ≡ capacity
          → Stands meaning local_is shared_is g (es ++ Deliver (suc q) ∷ []) infos stages' queues rows' seats' failed count' room capacity'
      whole_at es phase built streamed infos stages stages' queues rows rows' row' seats seats' failed count count' room capacity capacity' q p t st' h worker busy here is o stage row seats_set stages_set rows_set less same =
          let s = state_after (plan_of g) es in
          let ready = departing meaning local_is shared_is g es infos stages queues rows seats failed count room capacity (suc q) (suc p) t h worker busy here in
          subst (λ xs. Stands meaning local_is shared_is g (es ++ Deliver (suc q) ∷ []) infos xs queues rows' seats' failed count' room capacity') (sym stages_set)
          (subst (λ xs. Stands meaning local_is shared_is g (es ++ Deliver (suc q) ∷ []) infos (slice_set stages p st') queues rows' xs failed count' room capacity') (sym seats_set)
          (subst (λ xs. Stands meaning local_is shared_is g (es ++ Deliver (suc q) ∷ []) infos (slice_set stages p st') queues xs (slice_set seats q None) failed count' room capacity') (sym rows_set)
          (delivered_stands meaning local_is shared_is g es (suc q) t (record s { phase = phase; built = built; streamed = streamed; tasks = upd s.tasks (suc q) None }) infos stages (slice_set stages p st') queues queues rows (slice_set rows p row') seats (slice_set seats q None) failed count count' room capacity capacity' h worker busy
          is
          (stored_landed meaning local_is shared_is g s phase s.locals built streamed s.folded s.waiting (peaks meaning local_is shared_is g es) _ infos stages queues queues rows (slice_set rows p row') seats failed count count' q p t st' h.stored worker busy here o
          stage
          (length-set rows p row')
          (rows_landed meaning local_is shared_is g s phase s.locals built streamed (suc q) p t rows row' busy here o h.stored.rows_are row)
          refl
          (with_most meaning local_is shared_is g s (peaks meaning local_is shared_is g es) _ infos stages queues rows seats failed count (peak_stays meaning local_is shared_is g es) h.stored).queues_are
          less)
          ready.flies less same)))
