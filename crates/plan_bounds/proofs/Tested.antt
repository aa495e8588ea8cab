-- The tests' nodes are sorted.
use Rattle.std.proofs.Common.{◌≡◌, ℕ, zero, suc, ◌+◌, ◌<◌, Bool, true, ◌&&◌, List, [], ◌∷◌, length, map, ap, subst, ◌∙◌, arith}
use Rattle.std.specs.Prelude.{nat_lt}
use Rattle.std.specs.List.{Contains}
use Rattle.std.proofs.lemmas.Bool.{and_parts, ltb-true}
use Rattle.plan_machine.specs.Lists.{at_or}
use Rattle.plan_nodes.specs.declared.node.Node.{Node}
use Rattle.plan_nodes.specs.Plans.{no_node}
use Rattle.plan_bounds.specs.Computed.{AreSorted}

abbrev are_below : ℕ → List ℕ → Bool
are_below n [] = true
are_below n (e ∷ es) = nat_lt e n && are_below n es

abbrev pub are_before : ℕ → List (List ℕ) → Bool
are_before n [] = true
are_before n (es ∷ ess) = are_below n es && are_before (suc n) ess

below-in : (n : ℕ) (es : List ℕ) → are_below n es ≡ true → (e : ℕ) → Contains es e → e < n
below-in n [] t e h = absurd (let a = h.1 in let no : ⊥ = omega arith in no)
below-in n (a ∷ es) t e (zero, h, same) = subst (λ (x : ℕ). x < n) same (ltb-true a n (and_parts (nat_lt a n) (are_below n es) t).0)
below-in n (a ∷ es) t e (suc k, h, same) = below-in n es (and_parts (nat_lt a n) (are_below n es) t).1 e (k, omega arith, same)

before-in : (n : ℕ) (vs : List Node) → are_before n (map (λ (v : Node). v.inputs) vs) ≡ true → (k e : ℕ) → k < length vs → Contains (at_or no_node k vs).inputs e → e < n + k
before-in n [] t k e lt h = absurd (let no : ⊥ = omega arith in no)
before-in n (v ∷ vs) t zero e lt h =
    let a = below-in n v.inputs (and_parts (are_below n v.inputs) (are_before (suc n) (map (λ (u : Node). u.inputs) vs)) t).0 e h in omega arith
before-in n (v ∷ vs) t (suc k) e lt h =
    let a = before-in (suc n) vs (and_parts (are_below n v.inputs) (are_before (suc n) (map (λ (u : Node). u.inputs) vs)) t).1 k e (omega arith) h in omega arith

pub sorted_by : (vs : List Node) (inputs : List (List ℕ)) → map (λ (v : Node). v.inputs) vs ≡ inputs → are_before 1 inputs ≡ true → AreSorted vs
sorted_by vs inputs same t zero e low high h = absurd (let no : ⊥ = omega arith in no)
sorted_by vs inputs same t (suc k) e low high h =
    let a = before-in 1 vs (ap (are_before 1) same ∙ t) k e (omega arith) h in omega arith

abbrev pub worked_inputs : List (List ℕ)
worked_inputs = [] ∷ [] ∷ (1 ∷ 2 ∷ []) ∷ (3 ∷ []) ∷ (4 ∷ []) ∷ []

abbrev pub square_inputs : List (List ℕ)
square_inputs = [] ∷ (1 ∷ 1 ∷ []) ∷ (2 ∷ 2 ∷ []) ∷ (3 ∷ 3 ∷ []) ∷ (4 ∷ 4 ∷ []) ∷ []

abbrev pub fetched_inputs : List (List ℕ)
fetched_inputs = [] ∷ (1 ∷ []) ∷ (2 ∷ []) ∷ []
