-- Lists that are made by pushing what stands for one number after another.
use Rattle.std.proofs.Common.{◌≡◌, ◌≢◌, ℕ, ◌+◌, ◌<◌, ◌⊎◌, inl, inr, List, [], ◌∷◌, ◌++◌, length, slice_index_or, sym, ap, subst, ◌∙◌, arith}
use Rattle.std.proofs.Math.ListN.{get_or-append}
use Rattle.std.proofs.Math.Seq.{get_or-append_seam}
use Rattle.plan_machine.proofs.Weigh.{same_or}

pub pushed_at : {B : Type 0} (R : ℕ → B → Type 0) (made : List B) (x : B) (k : ℕ) → length made ≡ k
    → ((j : ℕ) (d : B) → j < k → R j (slice_index_or made j d)) → R k x
    → (j : ℕ) (d : B) → j < k + 1 → R j (slice_index_or (made ++ x ∷ []) j d)
pushed_at R made x k len so_far here j d lt = by (same_or j k)
  where
    by : (j ≡ k) ⊎ (j ≢ k) → R j (slice_index_or (made ++ x ∷ []) j d)
    by (inl e) = subst (λ i. R i (slice_index_or (made ++ x ∷ []) i d)) (sym e) (subst (λ y. R k y) (sym (ap (λ i. slice_index_or (made ++ x ∷ []) i d) (sym len) ∙ get_or-append_seam made x [] d)) here)
    by (inr ne) =
        let below : j < k = omega arith in
        subst (λ y. R j y) (sym (get_or-append made (x ∷ []) d j (omega arith))) (so_far j d below)
