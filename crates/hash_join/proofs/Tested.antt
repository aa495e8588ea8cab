-- One part with its batches.
use Rattle.std.proofs.Common.{◌≡◌, ℕ, true, ◌&&◌, List, [], ◌∷◌, ◌++◌, ◌∙◌, sym, ap, refl, subst, IsTrue}
use Rattle.scalar_value.specs.declared.value.Value.{Value}
use Rattle.scalar_value.specs.declared.value.ColType.{ColType}
use Rattle.scalar_value.specs.declared.value.ColType.TheVariants as type
use Rattle.column_batch.specs.Batches.{fits_kinds, fit_kinds}
use Rattle.column_batch.proofs.Fitting.{fit_kinds-append}
use Rattle.plan_nodes.specs.Operators.{Each}
use Rattle.plan_nodes.specs.Kinds.{same_kinds, keys_fit}
use Rattle.plan_nodes.proofs.Parts.{both-true}

pub single : {A B : Type 0} (R : A → B → Type 0) (xs made : List A) (a : A) (p : B) → made ≡ xs ++ a ∷ [] → xs ≡ [] → R a p → Each R made (p ∷ [])
single R xs made a p pushed none one = subst (λ zs. Each R zs (p ∷ [])) (sym (pushed ∙ ap (λ zs. zs ++ a ∷ []) none)) (one, tt)

pub fit-push : (kinds : List ColType) (rows made : List (List Value)) (row : List Value) → made ≡ rows ++ row ∷ [] → IsTrue (fit_kinds kinds rows) → IsTrue (fits_kinds kinds row) → IsTrue (fit_kinds kinds made)
fit-push kinds rows made row pushed fit one =
    ap (fit_kinds kinds) pushed
    ∙ fit_kinds-append kinds rows (row ∷ [])
    ∙ both-true (fit_kinds kinds rows) (fit_kinds kinds (row ∷ [])) fit (both-true (fits_kinds kinds row) true one refl)

pub fits-here : (ls rs : List ColType) (ks ms : List ℕ) → ls ≡ type.Int ∷ [] → rs ≡ type.Int ∷ [] → ks ≡ 0 ∷ [] → ms ≡ 0 ∷ []
    → (same_kinds ls (type.Int ∷ []) && (same_kinds rs (type.Int ∷ []) && keys_fit ls rs ks ms)) ≡ true
fits-here ls rs ks ms p q r s = rw (p, q, r, s) refl
