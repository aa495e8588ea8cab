-- What is counted for fetches stands for what they folded, whatever entry comes.
use Rattle.std.proofs.Common.{◌≡◌, ◌≢◌, ℕ, zero, suc, ◌+◌, ◌-◌, ◌<◌, ◌≤◌, ◌^◌, max, ◌⊎◌, inl, inr, Bool, true, false, cond, ◌||◌, List, [], ◌∷◌, ◌++◌, length, Option, Some, None, IsSome, Result, Ok, Err, OnOk, OnErr, refl, sym, ap, subst, ◌∙◌, arith, vec_capacity, slice_index_or, slice_set}
use Rattle.std.proofs.lemmas.List.{length-set}
use Rattle.scalar_value.specs.declared.value.Value.{Value}
use Rattle.scalar_value.specs.declared.value.ColType.{ColType}
use Rattle.plan_machine.specs.declared.entry.Job.{Job}
use Rattle.plan_machine.specs.declared.entry.Job.TheVariants.{Emit, Fold, Seal, Stream, Close, Tail}
use Rattle.plan_machine.specs.declared.entry.Entry.{Entry}
use Rattle.plan_machine.specs.declared.entry.Entry.TheVariants.{Claim, Deliver, Pause, Resume, Finish, Stop, Fail}
use Rattle.plan_machine.specs.Lists.{upd, sum_to}
use Rattle.plan_machine.specs.Batch.{Batch, key}
use Rattle.plan_machine.specs.Plan.{Plan as MachinePlan, IsNode, IsWorker}
use Rattle.plan_machine.specs.State.{State, Task, opening}
use Rattle.plan_machine.specs.After.{after, claimed, landed, delivered, is_done}
use Rattle.plan_machine.specs.History.{replay}
use Rattle.plan_machine.proofs.Weigh.{upd-here, upd-else}
use Rattle.plan_machine.proofs.BoundLoad.{claimed_tasks, landed_tasks}
use Rattle.plan_machine.proofs.DriverHistory.{grows}
use Rattle.plan_nodes.specs.Operators.{OpMeaning}
use Rattle.task_work.specs.declared.work.Fruit.{Fruit}
use Rattle.task_work.specs.declared.work.Fruit.TheVariants as fruit
use Rattle.task_work.specs.Sites.{Site}
use Rattle.task_work.specs.Work.{IsFruit}
use Rattle.plan_store.specs.Told.{Given, Told, plan_of, state_of, with_entry}
use Rattle.run_state.specs.Stored.{in_flight, flying_in}
use Rattle.run_state.proofs.Held.{held_map, held_set}
use Rattle.run_state.proofs.Entering.{flying_more}
use Rattle.run_state.proofs.Leaving.{flying_less}
use Rattle.fetch_counts.specs.declared.front.Front.{Front}
use Rattle.fetch_counts.specs.Counts.{FrontIs, IsFresh, IsNoted, IsSameCount, AreSameCounts, HaveRoom}
use Rattle.task_core.specs.Fronts.{counted_of, FrontStands, FrontsStand, IsCountable}
use Rattle.fetch_counts.proofs.Counted.{counted_none}

-- ---- how many tasks are in flight

none_flying : (k : ℕ) → sum_to k (λ v. 0) ≡ 0
none_flying zero = refl
none_flying (suc k) = let e = none_flying k in omega arith

-- ---- what an entry leaves

-- Nothing is folded, and no more tasks are in flight than the room that is used.
pub record Passes (P : MachinePlan (List Value)) (s s' : State (List Value)) (used : ℕ) : Type 0 where
  pub folded : s'.folded ≡ s.folded
  pub flying : (room : ℕ) → used ≤ room → flying_in P s' + (room - used) ≤ flying_in P s + room

module _ (P : MachinePlan (List Value)) (s : State (List Value)) where
  pub passes_pause : (e : ℕ) → Passes P s (after P s (Pause e)) 1
  unfolding after
  passes_pause e = record { folded = refl; flying = λ room le. omega arith }

  pub passes_resume : (e : ℕ) → Passes P s (after P s (Resume e)) 1
  unfolding after
  passes_resume e = record { folded = refl; flying = λ room le. omega arith }

  pub passes_finish : (n : ℕ) → Passes P s (after P s (Finish n)) 1
  unfolding after
  passes_finish n = record { folded = refl; flying = λ room le. omega arith }

  pub passes_stop : (n : ℕ) → Passes P s (after P s (Stop n)) 1
  unfolding after
  passes_stop n = record { folded = refl; flying = λ room le. omega arith }

  pub passes_fail : (w : ℕ) (t : Task (List Value)) → IsWorker P w → s.tasks w ≡ Some t → Passes P s (after P s (Fail w)) 0
  unfolding after
  passes_fail w t worker busy = record { folded = refl; flying = λ room le. let e = flying_less P.workers w s.tasks t worker.0 worker.1 busy in omega arith }

  claimed_folded : (w n : ℕ) (job : Job) (k : ℕ) → (claimed P s w n job k).folded ≡ s.folded
  claimed_folded w n Emit k = refl
  claimed_folded w n Fold k = refl
  claimed_folded w n Seal k = refl
  claimed_folded w n Stream k = refl
  claimed_folded w n Close k = refl
  claimed_folded w n Tail k = refl

  pub passes_claim : (w n : ℕ) (job : Job) (k : ℕ) → IsWorker P w → s.tasks w ≡ None → Passes P s (after P s (Claim w n job k)) 2
  unfolding after
  passes_claim w n job k worker free =
      let c = claimed_tasks P s w n job k in
      let e = flying_more P.workers w s.tasks c.0 worker.0 worker.1 free in
      let same = ap (λ (ts : ℕ → Option (Task (List Value))). sum_to P.workers (λ v. in_flight (ts v))) c.1 in
      record { folded = claimed_folded w n job k; flying = λ room le. omega arith }

  landed_folded : (w : ℕ) (t : Task (List Value)) (job : Job) → (job ≡ Fold → ⊥) → (landed P s w t job).folded ≡ s.folded
  landed_folded w t Emit other = refl
  landed_folded w t Fold other = absurd (other refl)
  landed_folded w t Seal other = refl
  landed_folded w t Stream other = refl
  landed_folded w t Close other = refl
  landed_folded w t Tail other = refl

  -- a delivery that is dropped, or one of another job than a Fold
  pub passes_deliver : (w : ℕ) (t : Task (List Value)) → IsWorker P w → s.tasks w ≡ Some t → ((s.failed || is_done (s.phase t.node)) ≡ true) ⊎ (t.job ≡ Fold → ⊥) → Passes P s (after P s (Deliver w)) 0
  unfolding after
  passes_deliver w t worker busy which =
      subst (λ o. Passes P s (delivered P s w o) 0) (sym busy) (by (s.failed || is_done (s.phase t.node)) which)
    where
      less : sum_to P.workers (λ v. in_flight (s.tasks v)) ≡ sum_to P.workers (λ v. in_flight (upd s.tasks w None v)) + 1
      less = flying_less P.workers w s.tasks t worker.0 worker.1 busy

      by : (b : Bool) → (b ≡ true) ⊎ (t.job ≡ Fold → ⊥) → Passes P s (cond b (record s { tasks = upd s.tasks w None }) (landed P s w t t.job)) 0
      by true x = record { folded = refl; flying = λ room le. let e = less in omega arith }
      by false (inl e) = absurd (cc)
      by false (inr other) =
          let same = ap (λ (ts : ℕ → Option (Task (List Value))). sum_to P.workers (λ v. in_flight (ts v))) (landed_tasks P s w t t.job) in
          record { folded = landed_folded w t t.job other; flying = λ room le. let e = less in omega arith }

  -- the delivery of a Fold
  pub record Folds (s' : State (List Value)) (n : ℕ) (b : Batch (List Value)) : Type 0 where
    pub here : s'.folded n ≡ s.folded n ++ b ∷ []
    pub others : (m : ℕ) → m ≢ n → s'.folded m ≡ s.folded m
    pub less : flying_in P s' + 1 ≡ flying_in P s

  pub folds_deliver : (w : ℕ) (t : Task (List Value)) → IsWorker P w → s.tasks w ≡ Some t → (s.failed || is_done (s.phase t.node)) ≡ false → t.job ≡ Fold → Folds (after P s (Deliver w)) t.node t.batch
  unfolding after
  folds_deliver w t worker busy kept job =
      subst (λ o. Folds (delivered P s w o) t.node t.batch) (sym busy)
      (subst (λ b. Folds (cond b (record s { tasks = upd s.tasks w None }) (landed P s w t t.job)) t.node t.batch) (sym kept)
      (subst (λ j. Folds (landed P s w t j) t.node t.batch) (sym job)
      (record {
        here = upd-here s.folded t.node (s.folded t.node ++ t.batch ∷ []);
        others = λ m ne. upd-else s.folded t.node (s.folded t.node ++ t.batch ∷ []) m ne;
        less = sym (flying_less P.workers w s.tasks t worker.0 worker.1 busy);
      })))

-- the state behind one entry more
pub state_entry : (t : Told) (x : Entry) (used : ℕ) → state_of (with_entry t x used) ≡ after (plan_of t.given) (state_of t) x
state_entry t x used = (grows (plan_of t.given) t.history x (opening (plan_of t.given))).state

-- ---- what is stored, behind an entry

stays : (P : MachinePlan (List Value)) (s s' : State (List Value)) (room used n : ℕ) (f : Front) → used ≤ room → Passes P s s' used → FrontStands P s room n f → FrontStands P s' (room - used) n f
stays P s s' room used n f le p h = record {
  wanted = h.wanted;
  few = h.few;
  counts = λ m w. subst (λ (g : ℕ → List (Batch (List Value))). FrontIs (g n) f) (sym p.folded) (h.counts m w);
  fits = λ m w. let a = h.fits m w in let b = p.flying room le in omega arith;
}

pub fronts_stay : (t : Told) (x : Entry) (used : ℕ) (fronts : List Front) → used ≤ t.room → Passes (plan_of t.given) (state_of t) (after (plan_of t.given) (state_of t) x) used → FrontsStand t fronts → FrontsStand (with_entry t x used) fronts
fronts_stay t x used fronts le p h =
    let P = plan_of t.given in
    let q : Passes P (state_of t) (state_of (with_entry t x used)) used = subst (λ s. Passes P (state_of t) s used) (sym (state_entry t x used)) p in
    record {
      size = h.size;
      each = held_map (λ n f. FrontStands P (state_of t) t.room n f) (λ n f. FrontStands P (state_of (with_entry t x used)) (t.room - used) n f) fronts h.each
          (λ n f k. stays P (state_of t) (state_of (with_entry t x used)) t.room used n f le q k);
    }

-- a batch more is counted at one node
noted : (P : MachinePlan (List Value)) (s s' : State (List Value)) (room n : ℕ) (b : Batch (List Value)) (old f : Front) (index rows : ℕ) → Folds P s s' n b → key b ≡ index → length b.rows ≡ rows → IsNoted old index rows f → FrontStands P s room n old → FrontStands P s' (room - 0) n f
noted P s s' room n b old f index rows F at many i h = record {
  wanted = i.wanted ∙ h.wanted;
  few = h.few;
  counts = λ m w. subst (λ xs. FrontIs xs f) (sym F.here) (i.counts (some m w) (s.folded n) b (h.counts m w) at many);
  fits = λ m w. let a = h.fits m w in let c = F.less in let d = i.room in let e = i.behind in omega arith;
}
  where
    some : (m : ℕ) → (P.node n).wanted ≡ Some m → IsSome old.wanted
    some m w = subst (λ o. IsSome o) (sym (h.wanted ∙ w)) refl

unnoted : (P : MachinePlan (List Value)) (s s' : State (List Value)) (room n m : ℕ) (b : Batch (List Value)) (f : Front) → Folds P s s' n b → m ≢ n → FrontStands P s room m f → FrontStands P s' (room - 0) m f
unnoted P s s' room n m b f F ne h = record {
  wanted = h.wanted;
  few = h.few;
  counts = λ k w. subst (λ xs. FrontIs xs f) (sym (F.others m ne)) (h.counts k w);
  fits = λ k w. let a = h.fits k w in let c = F.less in omega arith;
}

pub fronts_noted : (t : Told) (w n index rows : ℕ) (b : Batch (List Value)) (d : Front) (fronts fronts' : List Front) → 1 ≤ n → n - 1 < length fronts
    → Folds (plan_of t.given) (state_of t) (after (plan_of t.given) (state_of t) (Deliver w)) n b → key b ≡ index → length b.rows ≡ rows
    → ((d : Front) → (f : Front) × (fronts' ≡ slice_set fronts (n - 1) f) × IsNoted (slice_index_or fronts (n - 1) d) index rows f)
    → FrontsStand t fronts → FrontsStand (with_entry t (Deliver w) 0) fronts'
fronts_noted t w n index rows b d fronts fronts' low within F at many made h =
    let P = plan_of t.given in
    let s = state_of t in
    let s' = state_of (with_entry t (Deliver w) 0) in
    let G : Folds P s s' n b = subst (λ x. Folds P s x n b) (sym (state_entry t (Deliver w) 0)) F in
    let m = made d in
    let place : suc (n - 1) ≡ n = omega arith in
    subst (λ xs. FrontsStand (with_entry t (Deliver w) 0) xs) (sym m.1)
    (record {
      size = length-set fronts (n - 1) m.0 ∙ h.size;
      each =
          held_set (λ k f. FrontStands P s t.room k f) (λ k f. FrontStands P s' (t.room - 0) k f) fronts (n - 1) m.0 h.each
          (subst (λ k. FrontStands P s' (t.room - 0) k m.0) (sym place)
          (noted P s s' t.room n b (slice_index_or fronts (n - 1) d) m.0 index rows G at many m.2
          (subst (λ k. FrontStands P s t.room k (slice_index_or fronts (n - 1) d)) place (h.each (n - 1) d within))))
          (λ k f ne x. unnoted P s s' t.room n k b f G (λ e. ne (e ∙ sym place)) x);
    })

-- there is room to count what is folded
has_room : (t : Told) (w n : ℕ) (u : Task (List Value)) (d : Front) (fronts : List Front) → IsWorker (plan_of t.given) w → (state_of t).tasks w ≡ Some u → 1 ≤ n → n - 1 < length fronts → FrontsStand t fronts
    → IsSome (slice_index_or fronts (n - 1) d).wanted → length (slice_index_or fronts (n - 1) d).behind.items < vec_capacity (slice_index_or fronts (n - 1) d).behind
has_room t w n u d fronts worker busy low within h some =
    let x = h.each (n - 1) d within in
    let e = flying_less (plan_of t.given).workers w (state_of t).tasks u worker.0 worker.1 busy in
    let fits = by (slice_index_or fronts (n - 1) d).wanted refl some in
    let f = x.fits fits.0 (sym x.wanted ∙ fits.1) in
    omega arith
  where
    by : (o : Option ℕ) → (slice_index_or fronts (n - 1) d).wanted ≡ o → IsSome o → (m : ℕ) × ((slice_index_or fronts (n - 1) d).wanted ≡ Some m)
    by None e s = absurd (cc)
    by (Some m) e s = (m, e)

pub countable : (t : Told) (w n : ℕ) (u : Task (List Value)) (fronts : List Front) → IsWorker (plan_of t.given) w → IsNode (plan_of t.given) n → (state_of t).tasks w ≡ Some u → FrontsStand t fronts → IsCountable fronts n
countable t w n u fronts worker node busy h =
    let size = h.size in
    let low = node.0 in
    let up = node.1 in
    let within : n - 1 < length fronts = omega arith in
    record { low = low; within = within; room = λ d some. has_room t w n u d fronts worker busy low within h some }

-- ---- with more room

counts_on : (folded : List (Batch (List Value))) (old f : Front) → FrontIs folded old → IsSameCount old f → FrontIs folded f
counts_on folded old f c y = rw (y.first, y.behind) c

pub fronts_roomy : (t : Told) (more : ℕ) (fronts fronts' : List Front) → more ≡ flying_in (plan_of t.given) (state_of t) + max t.room 2
    → AreSameCounts fronts fronts' → HaveRoom more fronts' → FrontsStand t fronts → FrontsStand (record t { room = max t.room 2 }) fronts'
fronts_roomy t more fronts fronts' is same room h = record {
  size = same.size ∙ h.size;
  each = λ k d lt.
      let low : k < length fronts = let e = same.size in omega arith in
      let x = h.each k d low in
      let y = same.each k d low in
      record {
        wanted = y.wanted ∙ x.wanted;
        few = x.few;
        counts = λ m w. counts_on ((state_of t).folded (suc k)) (slice_index_or fronts k d) (slice_index_or fronts' k d) (x.counts m w) y;
        fits = λ m w.
            let r = room k d lt (subst (λ o. IsSome o) (sym (y.wanted ∙ x.wanted ∙ w)) refl) in
            omega arith;
      };
}

-- the same is counted as before
pub fronts_same : (t : Told) (fronts fronts' : List Front) → AreSameCounts fronts fronts' → FrontsStand t fronts → FrontsStand t fronts'
fronts_same t fronts fronts' same h = record {
  size = same.size ∙ h.size;
  each = λ k d lt.
      let low : k < length fronts = let e = same.size in omega arith in
      let x = h.each k d low in
      let y = same.each k d low in
      record {
        wanted = y.wanted ∙ x.wanted;
        few = x.few;
        counts = λ m w. counts_on ((state_of t).folded (suc k)) (slice_index_or fronts k d) (slice_index_or fronts' k d) (x.counts m w) y;
        fits = λ m w. let a = x.fits m w in let b = y.room in let c = ap length y.behind in omega arith;
      };
}

-- the room is made, or all is as before
pub fronts_reserved : {E : Type 0} (t now : Told) (more : ℕ) (fronts fronts' : List Front) (r : Result (Unit {0}) E) → more ≡ flying_in (plan_of t.given) (state_of t) + max t.room 2
    → AreSameCounts fronts fronts' → HaveRoom more fronts' → OnOk r (now ≡ record t { room = max t.room 2 }) → OnErr r (now ≡ t)
    → FrontsStand t fronts → FrontsStand now fronts'
fronts_reserved t now more fronts fronts' (Ok x) is same room ok err h = subst (λ (u : Told). FrontsStand u fronts') (sym ok) (fronts_roomy t more fronts fronts' is same room h)
fronts_reserved t now more fronts fronts' (Err e) is same room ok err h = subst (λ (u : Told). FrontsStand u fronts') (sym err) (fronts_same t fronts fronts' same h)

-- ---- how a run begins

pub fronts_fresh : (g : Given) (fronts : List Front) → length fronts ≡ (plan_of g).sink
    → ((k m : ℕ) → k < length fronts → ((plan_of g).node (suc k)).wanted ≡ Some m → m < 2 ^ 64)
    → ((k : ℕ) (d : Front) → k < length fronts → IsFresh ((plan_of g).node (suc k)).wanted (slice_index_or fronts k d))
    → FrontsStand (record { given = g; history = []; room = 0 }) fronts
unfolding replay
fronts_fresh g fronts size few fresh = record {
  size = size;
  each = λ k d lt.
      let x = fresh k d lt in
      record {
        wanted = x.wanted_is;
        few = λ m w. few k m lt w;
        counts = λ m w. counted_none (List Value) (slice_index_or fronts k d).first (slice_index_or fronts k d).behind.items x.upto x.rows x.behind;
        fits = λ m w. let a = none_flying (plan_of g).workers in let b = ap length x.behind in omega arith;
      };
}

-- ---- what is delivered

-- of what was folded the index and the number of rows; what wasn't is of another job
pub counted_is : {O S L : Type 0}
    (meaning : O → OpMeaning)
    (local_is : OpMeaning → List ColType → L → List (Batch (List Value)) → Type 0)
    (shared_is : OpMeaning → List (List ColType) → S → List (List Value) → List (Batch (List Value)) → Type 0)
    (v : Site) (t : Task (List Value)) (f : Fruit O S L) (index rows : ℕ)
    → IsFruit meaning local_is shared_is v t f → counted_of f ≡ Some (index, rows)
    → (t.job ≡ Fold) × (key t.batch ≡ index) × (length t.batch.rows ≡ rows)
counted_is meaning local_is shared_is v t (fruit.Emit table out) index rows h e = absurd (cc)
counted_is meaning local_is shared_is v t (fruit.Fold part i r) index rows h e =
    let both : Some (i, r) ≡ Some (index, rows) = e in
    let pair : (i, r) ≡ (index, rows) = cc in
    (h.0, sym h.2 ∙ ap (λ (x : ℕ × ℕ). x.0) pair, sym h.3 ∙ ap (λ (x : ℕ × ℕ). x.1) pair)
counted_is meaning local_is shared_is v t (fruit.Seal row count) index rows h e = absurd (cc)
counted_is meaning local_is shared_is v t (fruit.Stream part out rest) index rows h e = absurd (cc)
counted_is meaning local_is shared_is v t (fruit.Close row count) index rows h e = absurd (cc)
counted_is meaning local_is shared_is v t (fruit.Tail part out) index rows h e = absurd (cc)

pub uncounted_is : {O S L : Type 0}
    (meaning : O → OpMeaning)
    (local_is : OpMeaning → List ColType → L → List (Batch (List Value)) → Type 0)
    (shared_is : OpMeaning → List (List ColType) → S → List (List Value) → List (Batch (List Value)) → Type 0)
    (v : Site) (t : Task (List Value)) (f : Fruit O S L)
    → IsFruit meaning local_is shared_is v t f → counted_of f ≡ None → t.job ≡ Fold → ⊥
uncounted_is meaning local_is shared_is v t (fruit.Emit table out) h e j = let x = sym h.0 ∙ j in cc
uncounted_is meaning local_is shared_is v t (fruit.Fold part i r) h e j = cc
uncounted_is meaning local_is shared_is v t (fruit.Seal row count) h e j = let x = sym h.0 ∙ j in cc
uncounted_is meaning local_is shared_is v t (fruit.Stream part out rest) h e j = let x = sym h.0 ∙ j in cc
uncounted_is meaning local_is shared_is v t (fruit.Close row count) h e j = let x = sym h.0 ∙ j in cc
uncounted_is meaning local_is shared_is v t (fruit.Tail part out) h e j = let x = sym h.0 ∙ j in cc
