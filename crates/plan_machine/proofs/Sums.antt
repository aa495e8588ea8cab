-- Sums over the numbers from 1 on, and how they change where a function changes at one number.
use Rattle.std.proofs.Common.{◌≡◌, ℕ, zero, suc, ◌+◌, ◌≤◌, ◌≢◌, ◌⊎◌, inl, inr, refl, sym, ap, arith}
use Rattle.std.proofs.lemmas.Bool.{cases_eq}
use Rattle.plan_machine.specs.Lists.{sum_to}

pub sum_same : (n : ℕ) (f g : ℕ → ℕ) → ((j : ℕ) → 1 ≤ j → j ≤ n → f j ≡ g j) → sum_to n f ≡ sum_to n g
sum_same zero f g h = refl
sum_same (suc n) f g h =
    let a = sum_same n f g (λ j p q. h j p (omega arith)) in
    let b = h (suc n) (omega arith) (omega arith) in
    omega arith

pub sum_ones : (n : ℕ) (f : ℕ → ℕ) → ((j : ℕ) → f j ≤ 1) → sum_to n f ≤ n
sum_ones zero f h = omega arith
sum_ones (suc n) f h = let a = sum_ones n f h in let b = h (suc n) in omega arith

-- a change at one number w changes the sum by so much
pub sum_changed : (n : ℕ) (f g : ℕ → ℕ) (w : ℕ) → 1 ≤ w → w ≤ n → ((j : ℕ) → j ≢ w → g j ≡ f j) → sum_to n g + f w ≡ sum_to n f + g w
sum_changed zero f g w p q h = absurd (omega arith)
sum_changed (suc n) f g w p q h = go (λ r. sum_changed n f g w p r h) (cases_eq w (suc n))
  where
    go : (w ≤ n → sum_to n g + f w ≡ sum_to n f + g w) → (w ≡ suc n) ⊎ (w ≡ suc n → ⊥) → sum_to (suc n) g + f w ≡ sum_to (suc n) f + g w
    go ih (inl e) =
        let a = sum_same n f g (λ j lo hi. sym (h j (λ d. absurd (omega arith)))) in
        let b = ap f e in
        let c = ap g e in
        omega arith
    go ih (inr ne) =
        let a = ih (omega arith) in
        let b = h (suc n) (λ d. ne (sym d)) in
        omega arith
