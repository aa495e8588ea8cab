-- Lists whose places stand for numbers from 1 on, where one place is written.
use Rattle.std.proofs.Common.{◌≡◌, ◌≢◌, ℕ, suc, ◌-◌, ◌<◌, ◌≤◌, List, length, sym, subst, ◌⊎◌, inl, inr, arith}
use Rattle.std.specs.Prelude.{slice_index_or, slice_set}
use Rattle.plan_machine.proofs.Weigh.{same_or}
use Rattle.std.proofs.lemmas.List.{get_or-set_same, get_or-set_other, length-set}
use Rattle.run_state.specs.Stored.{Held}

module _ {B : Type 0} where
  pub held_map : (R R' : ℕ → B → Type 0) (xs : List B) → Held R xs → ((n : ℕ) (y : B) → R n y → R' n y) → Held R' xs
  held_map R R' xs h f k d lt = f (suc k) (slice_index_or xs k d) (h k d lt)

  -- one place is written, and all others stand for what they stood for
  pub held_set : (R R' : ℕ → B → Type 0) (xs : List B) (p : ℕ) (x : B) → Held R xs → R' (suc p) x → ((n : ℕ) (y : B) → n ≢ suc p → R n y → R' n y) → Held R' (slice_set xs p x)
  held_set R R' xs p x h here others k d lt = by (same_or k p)
    where
      within : k < length xs
      within = subst (λ m. k < m) (length-set xs p x) lt

      by : (k ≡ p) ⊎ (k ≢ p) → R' (suc k) (slice_index_or (slice_set xs p x) k d)
      by (inl e) = subst (λ j. R' (suc j) (slice_index_or (slice_set xs p x) j d)) (sym e) (subst (λ y. R' (suc p) y) (sym (get_or-set_same xs p x d (subst (λ j. j < length xs) e within))) here)
      by (inr ne) = subst (λ y. R' (suc k) y) (sym (get_or-set_other xs p k x d ne)) (others (suc k) (slice_index_or xs k d) (λ e. ne (omega arith)) (h k d within))

  -- nothing is written, and what number n stands for changes
  pub held_else : (R R' : ℕ → B → Type 0) (xs : List B) (n : ℕ) → Held R xs → ((y : B) → R n y → R' n y) → ((m : ℕ) (y : B) → m ≢ n → R m y → R' m y) → Held R' xs
  held_else R R' xs n h here others k d lt = by (same_or (suc k) n)
    where
      by : (suc k ≡ n) ⊎ (suc k ≢ n) → R' (suc k) (slice_index_or xs k d)
      by (inl e) = subst (λ j. R' j (slice_index_or xs k d)) (sym e) (here (slice_index_or xs k d) (subst (λ j. R j (slice_index_or xs k d)) e (h k d lt)))
      by (inr ne) = others (suc k) (slice_index_or xs k d) ne (h k d lt)

-- what stands at the place of a number, counted from 1
pub held_at : {B : Type 0} (R : ℕ → B → Type 0) (xs : List B) (n : ℕ) (y : B) → Held R xs → 1 ≤ n → n ≤ length xs → y ≡ slice_index_or xs (n - 1) y → R n y
held_at R xs n y h low up is =
    let at : suc (n - 1) ≡ n = omega arith in
    let lt : n - 1 < length xs = omega arith in
    subst (λ k. R k y) at (subst (λ v. R (suc (n - 1)) v) (sym is) (h (n - 1) y lt))
