-- Two parts, each with its batch, and a fetch of few rows.
use Rattle.std.proofs.Common.{◌≡◌, ℕ, ◌≤◌, true, nat_le, List, [], ◌∷◌, ◌++◌, ◌∙◌, sym, ap, subst, arith}
use Rattle.std.proofs.lemmas.Bool.Decides.{nat_tests}
use Rattle.plan_nodes.specs.Operators.{Each}

pub both : {A B : Type 0} (R : A → B → Type 0) (xs ys made : List A) (a b : A) (p q : B) → made ≡ ys ++ b ∷ [] → ys ≡ xs ++ a ∷ [] → xs ≡ [] → R a p → R b q → Each R made (p ∷ q ∷ [])
both R xs ys made a b p q last first none one two =
    subst (λ zs. Each R zs (p ∷ q ∷ [])) (sym (last ∙ ap (λ zs. zs ++ b ∷ []) (first ∙ ap (λ zs. zs ++ a ∷ []) none))) (one, (two, tt))

-- the test of a number that is no greater
pub no-more : (m n : ℕ) → m ≤ n → nat_le m n ≡ true
no-more m n h = grind (arith, nat_tests)
