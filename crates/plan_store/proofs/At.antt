-- Elements of lists by their places.
use Rattle.std.proofs.Common.{◌≡◌, ℕ, zero, suc, ◌==◌, ◌||◌, List, [], ◌∷◌, Some, None, refl, ap, ◌∙◌, ◌<◌, length, arith, slice_index_or}
use Rattle.std.specs.Prelude.{slice_get, unwrap_or}
use Rattle.std.specs.List.{list_any}
use Rattle.plan_machine.specs.Lists.{at_or}
use Rattle.plan_nodes.specs.Plans.{among}

pub at_get : {A : Type 0} (d : A) (k : ℕ) (xs : List A) → at_or d k xs ≡ unwrap_or (slice_get xs k) d
at_get d k [] = refl
at_get d zero (x ∷ xs) = refl
at_get d (suc k) (x ∷ xs) = at_get d k xs

pub at_some : {A : Type 0} (d : A) (k : ℕ) (xs : List A) (x : A) → slice_get xs k ≡ Some x → at_or d k xs ≡ x
at_some d k xs x e = at_get d k xs ∙ ap (λ o. unwrap_or o d) e

pub at_none : {A : Type 0} (d : A) (k : ℕ) (xs : List A) → slice_get xs k ≡ None → at_or d k xs ≡ d
at_none d k xs e = at_get d k xs ∙ ap (λ o. unwrap_or o d) e

pub at_slice : {A : Type 0} (d e : A) (k : ℕ) (xs : List A) → k < length xs → at_or d k xs ≡ slice_index_or xs k e
at_slice d e k [] l = absurd (omega arith)
at_slice d e zero (x ∷ xs) l = refl
at_slice d e (suc k) (x ∷ xs) l = at_slice d e k xs (omega arith)

pub among_any : (e : ℕ) (xs : List ℕ) → list_any (λ y. y == e) xs ≡ among e xs
among_any e [] = refl
among_any e (x ∷ xs) = ap (λ b. (x == e) || b) (among_any e xs)

-- an element of a list that has one
pub some_of : {B : Type 0} (p : ℕ) (xs : List B) → p < length xs → B
some_of p [] lt = absurd (let no : ⊥ = omega arith in no)
some_of p (x ∷ xs) lt = x
