-- Functions of numbers, and lists, in the few words that the machine needs.
use Rattle.std.specs.Prelude.{ℕ, zero, suc, ◌+◌, cond, nat_eq, List, [], ◌∷◌, ◌++◌}

-- f, but with v at k
abbrev pub upd : {A : Type 0} → (ℕ → A) → ℕ → A → ℕ → A
upd f k v j = cond (nat_eq j k) v (f j)

-- the element at place p, or d where there is none
abbrev pub at_or : {A : Type 0} → A → ℕ → List A → A
at_or d p [] = d
at_or d zero (x ∷ xs) = x
at_or d (suc p) (x ∷ xs) = at_or d p xs

-- the list without the element at place p
abbrev pub without : {A : Type 0} → ℕ → List A → List A
without p [] = []
without zero (x ∷ xs) = xs
without (suc p) (x ∷ xs) = x ∷ without p xs

-- the lists f 1, f 2, .. f n, one after another
abbrev pub gather : {A : Type 0} → ℕ → (ℕ → List A) → List A
gather zero f = []
gather (suc n) f = gather n f ++ f (suc n)

-- the sum of f 1, f 2, .. f n
abbrev pub sum_to : ℕ → (ℕ → ℕ) → ℕ
sum_to zero f = 0
sum_to (suc n) f = sum_to n f + f (suc n)

-- what the elements of a list weigh together
abbrev pub weigh : {A : Type 0} → (A → ℕ) → List A → ℕ
weigh h [] = 0
weigh h (x ∷ xs) = h x + weigh h xs
