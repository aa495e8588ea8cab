-- How a loop that takes one step after another comes to `each_ok`.
use Rattle.std.proofs.Common.{◌≡◌, ℕ, zero, suc, arith, ◌+◌, List, [], ◌∷◌, ◌++◌, drop, take, refl, sym, ap, ◌∙◌, append_assoc, append-nil, Some, Result, Ok, Err}
use Rattle.csv.specs.Records.{field_at}
use Rattle.scalar_value.specs.declared.memory.Or.{Or}
use Rattle.scalar_value.specs.declared.memory.Or.TheVariants.{Fault, Memory}
use Rattle.scalar_value.specs.Gives.{Gives}
use Rattle.csv_source.specs.Steps.{◌>>=◌, each_ok}

-- the items that were made, before those to come
abbrev pub after : {B F : Type 0} → List B → Result (List B) F → Result (List B) F
after made (Ok ys) = Ok (made ++ ys)
after made (Err e) = Err e

pub after-nil : {B F : Type 0} (r : Result (List B) F) → after [] r ≡ r
after-nil (Ok ys) = refl
after-nil (Err e) = refl

after-first : {B F : Type 0} (made : List B) (y : B) (r : Result (List B) F) → after (made ++ y ∷ []) r ≡ after made (r >>= (λ ys. Ok (y ∷ ys)))
after-first made y (Ok ys) = ap (λ zs. Ok zs) (append_assoc made (y ∷ []) ys)
after-first made y (Err e) = refl

module _ {A B F : Type 0} (f : ℕ → A → Result B F) where
  pub goes_on : (k : ℕ) (x : A) (rest : List A) (made : List B) (y : B) → f k x ≡ Ok y → after (made ++ y ∷ []) (each_ok f (k + 1) rest) ≡ after made (each_ok f k (x ∷ rest))
  goes_on k x rest made y e = after-first made y _ ∙ sym (ap (λ r. after made (r >>= (λ z. each_ok f (k + 1) rest >>= (λ ys. Ok (z ∷ ys))))) e)

  pub stops : (k : ℕ) (x : A) (rest : List A) (made : List B) (e : F) → f k x ≡ Err e → after made (each_ok f k (x ∷ rest)) ≡ Err e
  stops k x rest made e h = ap (λ r. after made (r >>= (λ z. each_ok f (k + 1) rest >>= (λ ys. Ok (z ∷ ys))))) h

  -- the same for the answer of a step that was refused, or had no memory
  pub refused : (k : ℕ) (x : A) (rest : List A) (made : List B) (r : Or F) (whole : Result (List B) F) → Gives {T = B} (Err r) (f k x)
      → after made (each_ok f k (x ∷ rest)) ≡ whole → Gives {T = List B} (Err r) whole
  refused k x rest made (Fault e) whole h all = sym all ∙ stops k x rest made e h
  refused k x rest made Memory whole h all = tt

-- the fields from a place on, and those before the next place
pub drop-field : (xs : List (List ℕ)) (i : ℕ) (x : List ℕ) → field_at xs i ≡ Some x → drop i xs ≡ x ∷ drop (i + 1) xs
unfolding field_at
drop-field [] i x h = cc h
drop-field (y ∷ ys) zero x h = let e : y ≡ x = cc in ap (λ z. z ∷ ys) e
drop-field (y ∷ ys) (suc i) x h = let e : suc i + 1 ≡ suc (i + 1) = omega arith in rw e (drop-field ys i x h)

pub take-field : (xs : List (List ℕ)) (i : ℕ) (x : List ℕ) → field_at xs i ≡ Some x → take (i + 1) xs ≡ take i xs ++ x ∷ []
unfolding field_at
take-field [] i x h = cc h
take-field (y ∷ ys) zero x h = let e : y ≡ x = cc in ap (λ z. z ∷ []) e
take-field (y ∷ ys) (suc i) x h = let e : suc i + 1 ≡ suc (i + 1) = omega arith in rw e (ap (λ t. y ∷ t) (take-field ys i x h))

pub ended : {A B F : Type 0} (f : ℕ → A → Result B F) (k : ℕ) (rest : List A) (made : List B) → rest ≡ [] → after made (each_ok f k rest) ≡ Ok made
ended f k rest made e = ap (λ r. after made (each_ok f k r)) e ∙ ap (λ ys. Ok ys) (append-nil made)
