-- What is delivered is counted where it was folded and isn't dropped.
use Rattle.std.proofs.Common.{◌≡◌, ℕ, ◌-◌, ◌<◌, ◌⊎◌, inl, inr, Bool, true, false, cond, List, length, Option, Some, None, refl, sym, ap, subst, ◌∙◌, arith, slice_index_or, slice_set}
use Rattle.std.proofs.lemmas.Bool.{cases_Bool}
use Rattle.scalar_value.specs.declared.value.Value.{Value}
use Rattle.scalar_value.specs.declared.value.ColType.{ColType}
use Rattle.plan_machine.specs.declared.entry.Job.TheVariants.{Fold}
use Rattle.plan_machine.specs.declared.entry.Entry.TheVariants.{Deliver}
use Rattle.plan_machine.specs.Batch.{Batch}
use Rattle.plan_machine.specs.Plan.{IsNode, IsWorker}
use Rattle.plan_machine.specs.After.{after}
use Rattle.plan_nodes.specs.Operators.{OpMeaning}
use Rattle.task_work.specs.declared.work.Fruit.{Fruit}
use Rattle.plan_store.specs.Told.{Told, plan_of, state_of, site_of, with_entry}
use Rattle.plan_store.proofs.At.{some_of}
use Rattle.run_state.specs.Calls.{IsDue}
use Rattle.run_state.specs.Delivering.{is_dropped}
use Rattle.fetch_counts.specs.declared.front.Front.{Front}
use Rattle.fetch_counts.specs.Counts.{IsNoted}
use Rattle.task_core.specs.Fronts.{counted_of, FrontsStand}
use Rattle.task_core.proofs.Fronts.{passes_deliver, folds_deliver, Folds, fronts_stay, fronts_noted, counted_is, uncounted_is}

module _ {O S L : Type 0}
    (meaning : O → OpMeaning)
    (local_is : OpMeaning → List ColType → L → List (Batch (List Value)) → Type 0)
    (shared_is : OpMeaning → List (List ColType) → S → List (List Value) → List (Batch (List Value)) → Type 0)
  where
    pub fronts_delivered : (t : Told) (w n : ℕ) (f : Fruit O S L) (r : Option (ℕ × ℕ)) (fronts fronts' : List Front)
        → IsWorker (plan_of t.given) w → IsNode (plan_of t.given) n → IsDue meaning local_is shared_is t w n f
        → r ≡ cond (is_dropped t n) None (counted_of f)
        → (r ≡ None → fronts' ≡ fronts)
        → ((x : ℕ × ℕ) (d : Front) → r ≡ Some x → (g : Front) × (fronts' ≡ slice_set fronts (n - 1) g) × IsNoted (slice_index_or fronts (n - 1) d) x.0 x.1 g)
        → FrontsStand t fronts → FrontsStand (with_entry t (Deliver w) 0) fronts'
    fronts_delivered t w n f r fronts fronts' worker node due is none some h = by (cases_Bool (is_dropped t n)) r refl
      where
        unnoted : ((is_dropped t due.task.node ≡ true) ⊎ (due.task.job ≡ Fold → ⊥)) → fronts' ≡ fronts → FrontsStand (with_entry t (Deliver w) 0) fronts'
        unnoted which same =
            subst (λ xs. FrontsStand (with_entry t (Deliver w) 0) xs) (sym same)
            (fronts_stay t (Deliver w) 0 fronts (omega arith) (passes_deliver (plan_of t.given) (state_of t) w due.task worker due.flies which) h)

        by : (is_dropped t n ≡ true) ⊎ (is_dropped t n ≡ false) → (o : Option (ℕ × ℕ)) → r ≡ o → FrontsStand (with_entry t (Deliver w) 0) fronts'
        by (inl e) o at =
            unnoted (inl (subst (λ m. is_dropped t m ≡ true) (sym due.at_node) e)) (none (is ∙ ap (λ (b : Bool). cond b None (counted_of f)) e))
        by (inr e) None at =
            let kept : r ≡ counted_of f = is ∙ ap (λ (b : Bool). cond b None (counted_of f)) e in
            unnoted (inr (uncounted_is meaning local_is shared_is (site_of t.given n) due.task f due.fruit (sym kept ∙ at))) (none at)
        by (inr e) (Some x) at =
            let kept : r ≡ counted_of f = is ∙ ap (λ (b : Bool). cond b None (counted_of f)) e in
            let counted = counted_is meaning local_is shared_is (site_of t.given n) due.task f x.0 x.1 due.fruit (sym kept ∙ at) in
            let made = folds_deliver (plan_of t.given) (state_of t) w due.task worker due.flies (subst (λ m. is_dropped t m ≡ false) (sym due.at_node) e) counted.0 in
            let within : n - 1 < length fronts = let s = h.size in let low = node.0 in let up = node.1 in omega arith in
            fronts_noted t w n x.0 x.1 due.task.batch (some_of (n - 1) fronts within) fronts fronts' node.0 within
            (subst (λ m. Folds (plan_of t.given) (state_of t) (after (plan_of t.given) (state_of t) (Deliver w)) m due.task.batch) due.at_node made)
            counted.1 counted.2 (λ d. some x d at) h
