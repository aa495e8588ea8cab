-- What one worker does leaves the tasks of every other worker in flight.
use Rattle.std.proofs.Common.{◌≡◌, ◌≢◌, ℕ, suc, ◌<◌, ◌≤◌, Bool, true, false, cond, ◌||◌, List, [], ◌∷◌, ◌++◌, length, Option, Some, None, refl, sym, ap, subst, ◌∙◌, arith}
use Rattle.std.specs.Prelude.{slice_index_or, slice_set, replicate}
use Rattle.std.proofs.lemmas.List.{get_or-replicate, length-replicate}
use Rattle.scalar_value.specs.declared.value.Value.{Value}
use Rattle.scalar_value.specs.declared.value.ColType.{ColType}
use Rattle.plan_machine.specs.declared.entry.Job.{Job}
use Rattle.plan_machine.specs.declared.entry.Entry.{Entry}
use Rattle.plan_machine.specs.declared.entry.Entry.TheVariants.{Claim, Deliver, Pause, Resume, Finish, Stop, Fail}
use Rattle.plan_machine.specs.Batch.{Batch}
use Rattle.plan_machine.specs.Lists.{upd}
use Rattle.plan_machine.specs.Plan.{Plan}
use Rattle.plan_machine.specs.State.{State, Task, opening}
use Rattle.plan_machine.specs.After.{after, delivered, landed, is_done}
use Rattle.plan_machine.specs.History.{state_after}
use Rattle.plan_machine.proofs.BoundLoad.{claimed_tasks, landed_tasks}
use Rattle.plan_machine.proofs.DriverHistory.{grows}
use Rattle.plan_machine.proofs.Weigh.{upd-else}
use Rattle.plan_nodes.specs.Operators.{OpMeaning}
use Rattle.plan_machine.specs.Driver.{IsUpkeepChoice}
use Rattle.task_work.specs.Sites.{Site}
use Rattle.task_work.specs.declared.work.Fruit.{Fruit}
use Rattle.task_work.specs.Work.{IsWork, IsFruit}
use Rattle.plan_store.specs.Told.{Told, plan_of, state_of, site_of, with_entry}
use Rattle.run_state.specs.Calls.{IsInHand, Claimed, IsDue}
use Rattle.run_state.proofs.Held.{held_map, held_set}
use Rattle.worker_run.proofs.Driving.{site_batch}
use Rattle.played_runs.specs.declared.moves.Hand.{Hand}
use Rattle.played_runs.specs.Hands.{IsHand, AreHands}

-- whether an entry is one of this worker's
abbrev pub Spares : ℕ → Entry → Type 0
Spares w (Claim v n job k) = w ≢ v
Spares w (Deliver v) = w ≢ v
Spares w (Fail v) = w ≢ v
Spares w (Pause e) = Unit {0}
Spares w (Resume e) = Unit {0}
Spares w (Finish n) = Unit {0}
Spares w (Stop n) = Unit {0}

module _ {R : Type 0} (P : Plan R) where
  spared_landed : (s : State R) (v w : ℕ) (t : Task R) (b : Bool) → w ≢ v → (cond b (record s { tasks = upd s.tasks v None }) (landed P s v t t.job)).tasks w ≡ s.tasks w
  spared_landed s v w t true d = upd-else s.tasks v None w d
  spared_landed s v w t false d = ap (λ (f : ℕ → Option (Task R)). f w) (landed_tasks P s v t t.job) ∙ upd-else s.tasks v None w d

  spared_delivered : (s : State R) (v w : ℕ) (o : Option (Task R)) → w ≢ v → (delivered P s v o).tasks w ≡ s.tasks w
  spared_delivered s v w None d = refl
  spared_delivered s v w (Some t) d = spared_landed s v w t (s.failed || is_done (s.phase t.node)) d

  spared : (s : State R) (x : Entry) (w : ℕ) → Spares w x → (after P s x).tasks w ≡ s.tasks w
  unfolding after
  spared s (Claim v n job k) w d =
      let c = claimed_tasks P s v n job k in
      ap (λ (f : ℕ → Option (Task R)). f w) c.1 ∙ upd-else s.tasks v (Some c.0) w d
  spared s (Deliver v) w d = spared_delivered s v w (s.tasks v) d
  spared s (Fail v) w d = upd-else s.tasks v None w d
  spared s (Pause e) w d = refl
  spared s (Resume e) w d = refl
  spared s (Finish n) w d = refl
  spared s (Stop n) w d = refl

spared_told : (t : Told) (x : Entry) (used w : ℕ) → Spares w x → (state_of (with_entry t x used)).tasks w ≡ (state_of t).tasks w
spared_told t x used w d =
    ap (λ (s : State (List Value)). s.tasks w) (grows (plan_of t.given) t.history x (opening (plan_of t.given))).state ∙ spared (plan_of t.given) (state_of t) x w d

module _ {O S L : Type 0}
    (meaning : O → OpMeaning)
    (local_is : OpMeaning → List ColType → L → List (Batch (List Value)) → Type 0)
    (shared_is : OpMeaning → List (List ColType) → S → List (List Value) → List (Batch (List Value)) → Type 0)
  where
    pub hand_spared : (t : Told) (x : Entry) (used w : ℕ) (h : Option (Hand O S L)) → Spares w x → IsHand meaning local_is shared_is t w h → IsHand meaning local_is shared_is (with_entry t x used) w h
    hand_spared t x used w None d h = tt
    hand_spared t x used w (Some hand) d h =
        record {
          task = h.task;
          flies = spared_told t x used w d ∙ h.flies;
          at_node = h.at_node;
          keeps = h.keeps;
          cuts = h.cuts;
          work = h.work;
        }

    -- with more room, hands are as they were
    pub hand_reserved : (t : Told) (room w : ℕ) (h : Option (Hand O S L)) → IsHand meaning local_is shared_is t w h → IsHand meaning local_is shared_is (record t { room = room }) w h
    hand_reserved t room w None h = tt
    hand_reserved t room w (Some hand) h = record { task = h.task; flies = h.flies; at_node = h.at_node; keeps = h.keeps; cuts = h.cuts; work = h.work }

    -- an entry that spares all workers leaves all hands
    pub hands_kept : (t now : Told) (x : Entry) (used : ℕ) (hands : List (Option (Hand O S L))) → now ≡ with_entry t x used → ((w : ℕ) → Spares w x)
        → AreHands meaning local_is shared_is t hands → AreHands meaning local_is shared_is now hands
    hands_kept t now x used hands e d h =
        subst (λ u. AreHands meaning local_is shared_is u hands) (sym e)
        (held_map (IsHand meaning local_is shared_is t) (IsHand meaning local_is shared_is (with_entry t x used)) hands h (λ w y q. hand_spared t x used w y (d w) q))

    -- an entry that spares all others leaves theirs
    pub hands_changed : (t now : Told) (x : Entry) (used place : ℕ) (hands : List (Option (Hand O S L))) (h : Option (Hand O S L)) → now ≡ with_entry t x used
        → ((w : ℕ) → w ≢ suc place → Spares w x) → IsHand meaning local_is shared_is now (suc place) h → AreHands meaning local_is shared_is t hands
        → AreHands meaning local_is shared_is now (slice_set hands place h)
    hands_changed t now x used place hands h e d here old =
        held_set (IsHand meaning local_is shared_is t) (IsHand meaning local_is shared_is now) hands place h old here
        (λ w y ne q. subst (λ u. IsHand meaning local_is shared_is u w y) (sym e) (hand_spared t x used w y (d w ne) q))

    pub hands_claimed : (t now : Told) (worker place : ℕ) (hands : List (Option (Hand O S L))) (h : Hand O S L) → Claimed meaning local_is shared_is t now worker h.node h.kept h.batch h.work → worker ≡ suc place
        → AreHands meaning local_is shared_is t hands → AreHands meaning local_is shared_is now (slice_set hands place (Some h))
    hands_claimed t now worker place hands h c e old =
        hands_changed t now (Claim worker h.node c.job c.number) 2 place hands (Some h) c.told (λ w ne same. ne (same ∙ e))
        (subst (λ w. IsInHand meaning local_is shared_is now w h.node h.kept h.batch h.work) e c.in_hand) old

    -- a worker that has delivered, or that failed, has nothing in hand
    pub hands_left : (t now : Told) (x : Entry) (worker place : ℕ) (hands hands' : List (Option (Hand O S L))) → now ≡ with_entry t x 0 → ((w : ℕ) → w ≢ worker → Spares w x) → worker ≡ suc place
        → hands' ≡ slice_set hands place None → AreHands meaning local_is shared_is t hands → AreHands meaning local_is shared_is now hands'
    hands_left t now x worker place hands hands' e d same left old =
        subst (λ hs. AreHands meaning local_is shared_is now hs) (sym left)
        (hands_changed t now x 0 place hands None e (λ w ne. d w (λ q. ne (q ∙ same))) tt old)

    -- what stands in a hand
    pub hand_held : (t : Told) (place : ℕ) (hands : List (Option (Hand O S L))) (found : Option (Hand O S L)) (h : Hand O S L) → AreHands meaning local_is shared_is t hands → place < length hands
        → slice_index_or hands place None ≡ found → found ≡ Some h → IsInHand meaning local_is shared_is t (suc place) h.node h.kept h.batch h.work
    hand_held t place hands found h old lt was is = subst (λ o. IsHand meaning local_is shared_is t (suc place) o) (was ∙ is) (old place None lt)

    pub hand_batch : (t : Told) (worker : ℕ) (h : Hand O S L) → IsInHand meaning local_is shared_is t worker h.node h.kept h.batch h.work → 1 ≤ t.given.pace.batch → 0 < h.batch
    hand_batch t worker h i low = let same = sym (site_batch t.given h.node) ∙ i.cuts in omega arith

    pub hand_due : (t : Told) (worker place : ℕ) (h : Hand O S L) (n : ℕ) (f : Fruit O S L) → worker ≡ suc place → IsInHand meaning local_is shared_is t (suc place) h.node h.kept h.batch h.work
        → ((v : Site) (x : Task (List Value)) → v.kept ≡ h.kept → v.batch ≡ h.batch → IsWork meaning local_is shared_is v x h.work → (n ≡ h.node) × IsFruit meaning local_is shared_is v x f)
        → IsDue meaning local_is shared_is t worker n f
    hand_due t worker place h n f e i r =
        let x = r (site_of t.given h.node) i.task i.keeps i.cuts i.work in
        record {
          task = i.task;
          flies = subst (λ w. (state_of t).tasks w ≡ Some i.task) (sym e) i.flies;
          at_node = i.at_node ∙ sym x.0;
          fruit = subst (λ m. IsFruit meaning local_is shared_is (site_of t.given m) i.task f) (sym x.0) x.1;
        }

    pub hands_empty : (t : Told) (n : ℕ) (hands : List (Option (Hand O S L))) → hands ≡ replicate n None → AreHands meaning local_is shared_is t hands
    hands_empty t n hands e =
        subst (λ hs. AreHands meaning local_is shared_is t hs) (sym e)
        (λ k d lt. subst (λ h. IsHand meaning local_is shared_is t (suc k) h) (sym (get_or-replicate n k None d (subst (λ m. k < m) (length-replicate n None) lt))) tt)

pub upkeep_spares : {R : Type 0} (P : Plan R) (s : State R) (x : Entry) → IsUpkeepChoice P s x → (w : ℕ) → Spares w x
upkeep_spares P s (Stop n) c w = tt
upkeep_spares P s (Pause e) c w = tt
upkeep_spares P s (Finish n) c w = tt
upkeep_spares P s (Resume e) c w = tt
upkeep_spares P s (Claim v n job k) c w = absurd c
upkeep_spares P s (Deliver v) c w = absurd c
upkeep_spares P s (Fail v) c w = absurd c
