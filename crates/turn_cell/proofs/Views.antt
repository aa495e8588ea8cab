-- Lists of views: how many seats are there, and each view after one was changed or added.
use Rattle.std.proofs.Common.{◌≡◌, ◌≢◌, ℕ, zero, suc, ◌+◌, ◌⊎◌, Bool, true, false, cond, List, [], ◌∷◌, ◌++◌, length, set, refl, sym, ◌∙◌, ap, subst, inl, inr, ⊎_elim, arith, Option, Some}
use mathlib.Core.Option.{some, some-injective, some-ne-none}
use Rattle.std.proofs.lemmas.List.Sums.{sum_by-cons}
use mathlib.Core.Logic.{dite}
use native.Mathlib.Decide.{ℕ_discrete}
use lib.ListN.{get_elem?}
use Rattle.atomic_table.proofs.Lists.{at_set, set_else, at_longer}
use Rattle.turn_cell.specs.Rule.{live_count, Sits}
use Rattle.turn_cell.specs.declared.knowledge.View.{View}

module _ {M E : Type 0} where
  abbrev weight : View M E → ℕ
  weight v = cond v.is_live 1 0

  -- another view than the one that was changed
  pub sits_set : (views : List (View M E)) (id j : ℕ) (w u : View M E) → j ≢ id → Sits views j u → Sits (set views id w) j u
  sits_set views id j w u other sits = (set_else views id j w other ∙ sits.0, sits.1)

  -- a view before the one that was added
  pub sits_push : (views : List (View M E)) (j : ℕ) (w u : View M E) → Sits views j u → Sits (views ++ w ∷ []) j u
  sits_push views j w u sits = (at_longer views (w ∷ []) j u sits.0, sits.1)

  -- one view is what it is
  pub same_view : (views : List (View M E)) (id : ℕ) (v w : View M E) → get_elem? views id ≡ some v → get_elem? views id ≡ some w → v ≡ w
  same_view views id v w at_v at_w = some-injective v w (sym at_v ∙ at_w)

  live_count-cons : (x : View M E) (views : List (View M E)) → live_count (x ∷ views) ≡ weight x + live_count views
  live_count-cons x views = sum_by-cons (λ (v : View M E). weight v) x views

  -- the view that was put in
  pub at_changed : (views : List (View M E)) (id : ℕ) (v w : View M E) → get_elem? views id ≡ some v → get_elem? (set views id w) id ≡ some w
  at_changed [] id v w at = absurd (some-ne-none v (sym at))
  at_changed (x ∷ views) zero v w at = refl
  at_changed (x ∷ views) (suc id) v w at = at_changed views id v w at

  live_count-set : (views : List (View M E)) (id : ℕ) (v w : View M E) → get_elem? views id ≡ some v → live_count (set views id w) + weight v ≡ live_count views + weight w
  live_count-set [] id v w at = absurd (some-ne-none v (sym at))
  live_count-set (x ∷ views) zero v w at = let same : weight x ≡ weight v = ap (λ (u : View M E). weight u) (some-injective x v at) in omega (arith, live_count-cons x views, live_count-cons w views)
  live_count-set (x ∷ views) (suc id) v w at = omega (arith, live_count-set views id v w at, live_count-cons x views, live_count-cons x (set views id w))

  -- a view changes, and its seat is there before and after
  pub live_count-same : (views : List (View M E)) (id : ℕ) (v w : View M E) → Sits views id v → w.is_live ≡ true → live_count (set views id w) ≡ live_count views
  live_count-same views id v w sits live =
      let before : weight v ≡ 1 = ap (λ (b : Bool). cond b 1 0) sits.1 in let after : weight w ≡ 1 = ap (λ (b : Bool). cond b 1 0) live in omega (arith, live_count-set views id v w sits.0)

  -- a seat goes
  pub live_count-gone : (views : List (View M E)) (id : ℕ) (v w : View M E) → Sits views id v → w.is_live ≡ false → live_count (set views id w) + 1 ≡ live_count views
  live_count-gone views id v w sits gone =
      let before : weight v ≡ 1 = ap (λ (b : Bool). cond b 1 0) sits.1 in let after : weight w ≡ 0 = ap (λ (b : Bool). cond b 1 0) gone in omega (arith, live_count-set views id v w sits.0)

  -- a seat comes
  pub live_count-more : (views : List (View M E)) (v : View M E) → v.is_live ≡ true → live_count (views ++ v ∷ []) ≡ live_count views + 1
  live_count-more [] v live = let one : weight v ≡ 1 = ap (λ (b : Bool). cond b 1 0) live in omega (arith, live_count-cons v [])
  live_count-more (x ∷ views) v live = omega (arith, live_count-more views v live, live_count-cons x views, live_count-cons x (views ++ v ∷ []))

  nobody : (views : List (View M E)) (id : ℕ) (v : View M E) → live_count views ≡ 0 → Sits views id v → ⊥
  nobody [] id v empty sits = some-ne-none v (sym sits.0)
  nobody (x ∷ views) zero v empty sits = let one : weight x ≡ 1 = ap (λ (u : View M E). weight u) (some-injective x v sits.0) ∙ ap (λ (b : Bool). cond b 1 0) sits.1 in omega (arith, live_count-cons x views)
  nobody (x ∷ views) (suc id) v empty sits = nobody views id v (omega (arith, live_count-cons x views)) sits

  -- where one seat is there, two seats that are there are one
  pub only_one : (views : List (View M E)) (i j : ℕ) (v w : View M E) → live_count views ≡ 1 → Sits views i v → Sits views j w → j ≡ i
  only_one [] i j v w one at_i at_j = absurd (some-ne-none v (sym at_i.0))
  only_one (x ∷ views) zero zero v w one at_i at_j = refl
  only_one (x ∷ views) zero (suc j) v w one at_i at_j = let here : weight x ≡ 1 = ap (λ (u : View M E). weight u) (some-injective x v at_i.0) ∙ ap (λ (b : Bool). cond b 1 0) at_i.1 in absurd (nobody views j w (omega (arith, live_count-cons x views)) at_j)
  only_one (x ∷ views) (suc i) zero v w one at_i at_j = let here : weight x ≡ 1 = ap (λ (u : View M E). weight u) (some-injective x w at_j.0) ∙ ap (λ (b : Bool). cond b 1 0) at_j.1 in absurd (nobody views i v (omega (arith, live_count-cons x views)) at_i)
  only_one (x ∷ views) (suc i) (suc j) v w one at_i at_j = ap suc (only_one views i j v w (no_more views i v at_i (sym (live_count-cons x views) ∙ one)) at_i at_j)
    where
      no_more : (rest : List (View M E)) (i : ℕ) (v : View M E) → Sits rest i v → weight x + live_count rest ≡ 1 → live_count rest ≡ 1
      no_more rest i v sits one = more (live_count rest) refl
        where
          more : (n : ℕ) → live_count rest ≡ n → live_count rest ≡ 1
          more zero e = absurd (nobody rest i v e sits)
          more (suc n) e = omega arith

  -- what holds of the view that was changed, and of each other one, holds of each
  pub each_after_set : (P : ℕ → View M E → Type 0) (views : List (View M E)) (id : ℕ) (w : View M E)
      → (w.is_live ≡ true → P id w) → ((j : ℕ) (u : View M E) → j ≢ id → Sits views j u → P j u)
      → (j : ℕ) (u : View M E) → Sits (set views id w) j u → P j u
  each_after_set P views id w here others j u sits =
      ⊎_elim (λ t. subst (λ (i : ℕ). P i u) (sym t.0) (subst (λ (x : View M E). P id x) t.1 (here (ap (λ (x : View M E). x.is_live) t.1 ∙ sits.1)))) (λ t. others j u t.0 (t.1, sits.1)) (at_set views id j w u sits.0)

  -- the last view is the one that was added
  at_end : (views : List (View M E)) (a b : View M E) (j : ℕ) → get_elem? (views ++ a ∷ []) j ≡ some b → (get_elem? views j ≡ some b) ⊎ ((j ≡ length views) × (a ≡ b))
  at_end [] a b zero e = inr (refl, some-injective a b e)
  at_end [] a b (suc j) e = absurd (some-ne-none b (sym e))
  at_end (x ∷ views) a b zero e = inl e
  at_end (x ∷ views) a b (suc j) e = ⊎_elim (λ t. inl t) (λ t. inr (ap suc t.0, t.1)) (at_end views a b j e)

  -- the same where a view is added
  pub each_after_push : (P : ℕ → View M E → Type 0) (views : List (View M E)) (w : View M E)
      → (w.is_live ≡ true → P (length views) w) → ((j : ℕ) (u : View M E) → Sits views j u → P j u)
      → (j : ℕ) (u : View M E) → Sits (views ++ w ∷ []) j u → P j u
  each_after_push P views w here others j u sits =
      ⊎_elim (λ t. others j u (t, sits.1)) (λ t. subst (λ (i : ℕ). P i u) (sym t.0) (subst (λ (x : View M E). P (length views) x) t.1 (here (ap (λ (x : View M E). x.is_live) t.1 ∙ sits.1)))) (at_end views w u j sits.0)

  -- whose numbers they are, after a view was changed that keeps its number
  pub each_seat_after_set : (seat_of : ℕ → Option ℕ) (views : List (View M E)) (id : ℕ) (v w : View M E) → Sits views id v → w.is_live ≡ true → w.knows.number ≡ v.knows.number
      → ((n i : ℕ) → seat_of n ≡ Some i → (u : View M E) × Sits views i u × (u.knows.number ≡ n))
      → (n i : ℕ) → seat_of n ≡ Some i → (u : View M E) × Sits (set views id w) i u × (u.knows.number ≡ n)
  each_seat_after_set seat_of views id v w sits live same_number each_seat n i e = dite (ℕ_discrete i id) here there
    where
      t : (u : View M E) × Sits views i u × (u.knows.number ≡ n)
      t = each_seat n i e

      here : i ≡ id → (u : View M E) × Sits (set views id w) i u × (u.knows.number ≡ n)
      here same = (
        w,
        (subst (λ (j : ℕ). get_elem? (set views id w) j ≡ some w) (sym same) (at_changed views id v w sits.0), live),
        same_number ∙ sym (ap (λ (x : View M E). x.knows.number) (same_view views id t.0 v (subst (λ (j : ℕ). get_elem? views j ≡ some t.0) same t.1.0) sits.0)) ∙ t.2,
      )

      there : i ≢ id → (u : View M E) × Sits (set views id w) i u × (u.knows.number ≡ n)
      there other = (t.0, sits_set views id i w t.0 other t.1, t.2)
