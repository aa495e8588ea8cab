-- What lists weigh that are filtered, or made of lists; and lists with the same rows in them.
use Rattle.std.proofs.Common.{◌≡◌, ℕ, ◌+◌, Bool, true, false, cond, ◌||◌, List, [], ◌∷◌, refl, sym, ◌∙◌, ap, arith}
use Rattle.std.specs.List.{filter, flat_map, list_any}
use Rattle.plan_machine.specs.Lists.{weigh}
use Rattle.plan_machine.specs.Meaning.{SameRows, SameSet}
use Rattle.plan_machine.proofs.Weigh.{weigh-append, weigh-same}

-- the lists weigh the same however their elements are weighed
abbrev pub SameWeight : {A : Type 0} → List A → List A → Type 0
SameWeight {A} xs ys = (h : A → ℕ) → weigh h xs ≡ weigh h ys

-- the same rows weigh the same, whether their order counts or not
pub same-weight : {R : Type 0} (kept : Bool) (xs ys : List R) → SameRows kept xs ys → SameWeight xs ys
same-weight true xs ys same = λ h. ap (weigh h) same
same-weight false xs ys same = same

pub weigh-filter : {A : Type 0} (h : A → ℕ) (p : A → Bool) (xs : List A) → weigh h (filter p xs) ≡ weigh (λ x. cond (p x) (h x) 0) xs
weigh-filter h p [] = refl
weigh-filter h p (x ∷ xs) =
    let e = weigh-filter h p xs in
    elim (p x) as (λ b. weigh h (cond b (x ∷ filter p xs) (filter p xs)) ≡ cond b (h x) 0 + weigh (λ y. cond (p y) (h y) 0) xs) [
      | true ↦ omega arith
      | false ↦ omega arith
    ]

pub weigh-flat_map : {A B : Type 0} (h : B → ℕ) (f : A → List B) (xs : List A) → weigh h (flat_map f xs) ≡ weigh (λ x. weigh h (f x)) xs
weigh-flat_map h f [] = refl
weigh-flat_map h f (x ∷ xs) = let e = weigh-flat_map h f xs in let a = weigh-append h (f x) (flat_map f xs) in omega arith

pub filter-same : {A : Type 0} (p : A → Bool) (xs ys : List A) → SameWeight xs ys → SameWeight (filter p xs) (filter p ys)
filter-same p xs ys same = λ h. weigh-filter h p xs ∙ same (λ x. cond (p x) (h x) 0) ∙ sym (weigh-filter h p ys)

-- which elements pass weighs as much where each passes as in the other
pub filter-alike : {A : Type 0} (h : A → ℕ) (p q : A → Bool) (xs : List A) → ((x : A) → p x ≡ q x) → weigh h (filter p xs) ≡ weigh h (filter q xs)
filter-alike h p q xs same =
    weigh-filter h p xs ∙ weigh-same (λ x. cond (p x) (h x) 0) (λ x. cond (q x) (h x) 0) xs (λ x. ap (λ b. cond b (h x) 0) (same x)) ∙ sym (weigh-filter h q xs)

-- those that pass weigh nothing together exactly where none passes
any-weight : {A : Type 0} (p : A → Bool) (xs : List A) → weigh (λ x. cond (p x) 1 0) xs ≡ 0 → list_any p xs ≡ false
any-weight p [] e = refl
any-weight p (x ∷ xs) e =
    elim (p x) as (λ b. cond b 1 0 + weigh (λ y. cond (p y) 1 0) xs ≡ 0 → (b || list_any p xs) ≡ false) [
      | true ↦ λ k. absurd (omega arith)
      | false ↦ λ k. any-weight p xs (omega arith)
    ] e

weight-any : {A : Type 0} (p : A → Bool) (xs : List A) → list_any p xs ≡ false → weigh (λ x. cond (p x) 1 0) xs ≡ 0
weight-any p [] e = refl
weight-any p (x ∷ xs) e =
    elim (p x) as (λ b. (b || list_any p xs) ≡ false → cond b 1 0 + weigh (λ y. cond (p y) 1 0) xs ≡ 0) [
      | true ↦ λ k. absurd (cc)
      | false ↦ λ k. let r = weight-any p xs k in omega arith
    ] e

same-test : (a b : Bool) → (a ≡ false → b ≡ false) → (b ≡ false → a ≡ false) → a ≡ b
same-test true true f g = refl
same-test true false f g = g refl
same-test false true f g = sym (f refl)
same-test false false f g = refl

-- lists with the same rows pass a test alike
pub any-same : {A : Type 0} (p : A → Bool) (xs ys : List A) → SameSet xs ys → list_any p xs ≡ list_any p ys
any-same p xs ys same =
    let w = same (λ x. cond (p x) 1 0) in
    same-test (list_any p xs) (list_any p ys) (λ e. any-weight p ys (w.0 (weight-any p xs e))) (λ e. any-weight p xs (w.1 (weight-any p ys e)))
