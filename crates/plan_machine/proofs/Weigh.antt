-- Weights of lists, functions of numbers that differ at one place, and lists of the workers.
use Rattle.std.proofs.Common.{◌≡◌, ℕ, zero, suc, ◌+◌, ◌<◌, ◌≤◌, ◌≢◌, ◌⊎◌, inl, inr, List, [], ◌∷◌, ◌++◌, length, map, take, drop, refl, sym, ap, arith}
use Rattle.std.proofs.lemmas.Bool.Decides.{eqb_tells}
use Rattle.plan_machine.specs.Lists.{upd, at_or, without, gather, weigh}
use Rattle.plan_machine.specs.Batch.{Batch, rows_of}

-- the lists of all elements, one after another
abbrev pub flat : {A B : Type 0} → (A → List B) → List A → List B
flat f [] = []
flat f (x ∷ xs) = f x ++ flat f xs

pub weigh-append : {A : Type 0} (h : A → ℕ) (xs ys : List A) → weigh h (xs ++ ys) ≡ weigh h xs + weigh h ys
weigh-append h [] ys = omega arith
weigh-append h (x ∷ xs) ys = let e = weigh-append h xs ys in omega arith

pub weigh-flat : {A B : Type 0} (h : B → ℕ) (f : A → List B) (xs : List A) → weigh h (flat f xs) ≡ weigh (λ x. weigh h (f x)) xs
weigh-flat h f [] = refl
weigh-flat h f (x ∷ xs) = let e = weigh-flat h f xs in let a = weigh-append h (f x) (flat f xs) in omega arith

pub weigh-map : {A B : Type 0} (h : B → ℕ) (f : A → B) (xs : List A) → weigh h (map f xs) ≡ weigh (λ x. h (f x)) xs
weigh-map h f [] = refl
weigh-map h f (x ∷ xs) = let e = weigh-map h f xs in omega arith

pub weigh-same : {A : Type 0} (f g : A → ℕ) (xs : List A) → ((x : A) → f x ≡ g x) → weigh f xs ≡ weigh g xs
weigh-same f g [] e = refl
weigh-same f g (x ∷ xs) e = let r = weigh-same f g xs e in let q = e x in omega arith

pub weigh-rows : {R : Type 0} (h : R → ℕ) (xs : List (Batch R)) → weigh h (rows_of xs) ≡ weigh (λ b. weigh h b.rows) xs
weigh-rows h [] = refl
weigh-rows h (x ∷ xs) = let e = weigh-rows h xs in let a = weigh-append h x.rows (rows_of xs) in omega arith

pub weigh-without : {A : Type 0} (h : A → ℕ) (d : A) (p : ℕ) (xs : List A) → p < length xs → weigh h xs ≡ h (at_or d p xs) + weigh h (without p xs)
weigh-without h d p [] l = absurd (omega arith)
weigh-without h d zero (x ∷ xs) l = refl
weigh-without h d (suc p) (x ∷ xs) l = let e = weigh-without h d p xs (omega arith) in omega arith

pub weigh-take-drop : {A : Type 0} (h : A → ℕ) (n : ℕ) (xs : List A) → weigh h xs ≡ weigh h (take n xs) + weigh h (drop n xs)
weigh-take-drop h zero xs = omega arith
weigh-take-drop h (suc n) [] = refl
weigh-take-drop h (suc n) (x ∷ xs) = let e = weigh-take-drop h n xs in omega arith

pub weigh-zero : {A : Type 0} (xs : List A) → weigh (λ _. 0) xs ≡ 0
weigh-zero [] = refl
weigh-zero (x ∷ xs) = let e = weigh-zero xs in omega arith

-- what weighs one each is the length
pub weigh-one : {A : Type 0} (xs : List A) → weigh (λ _. 1) xs ≡ length xs
weigh-one [] = refl
weigh-one (x ∷ xs) = let e = weigh-one xs in omega arith

pub upd-here : {A : Type 0} (f : ℕ → A) (k : ℕ) (v : A) → upd f k v k ≡ v
upd-here f k v = elim (eqb_tells k k) [ inl e ↦ rw e.0 refl | inr e ↦ absurd (e.1 refl) ]

pub upd-else : {A : Type 0} (f : ℕ → A) (k : ℕ) (v : A) (j : ℕ) → j ≢ k → upd f k v j ≡ f j
upd-else f k v j ne = elim (eqb_tells j k) [ inl e ↦ absurd (ne e.1) | inr e ↦ rw e.0 refl ]

-- a number is k or not
pub same_or : (j k : ℕ) → (j ≡ k) ⊎ (j ≢ k)
same_or j k = elim (eqb_tells j k) [ inl e ↦ inl e.1 | inr e ↦ inr e.1 ]

pub gather-same : {A : Type 0} (n : ℕ) (f g : ℕ → List A) → ((w : ℕ) → 1 ≤ w → w ≤ n → f w ≡ g w) → gather n f ≡ gather n g
gather-same zero f g e = refl
gather-same (suc n) f g e =
    let a = gather-same n f g (λ w l m. e w l (omega arith)) in
    let b = e (suc n) (omega arith) (omega arith) in
    cc

-- Two lists of the workers that differ at worker w alone.
pub gather-change : {A : Type 0} (h : A → ℕ) (n w : ℕ) (f g : ℕ → List A) → 1 ≤ w → w ≤ n → ((j : ℕ) → j ≢ w → f j ≡ g j) → weigh h (gather n f) + weigh h (g w) ≡ weigh h (gather n g) + weigh h (f w)
gather-change h zero w f g l m e = absurd (omega arith)
gather-change h (suc n) w f g l m e =
    let a = weigh-append h (gather n f) (f (suc n)) in
    let b = weigh-append h (gather n g) (g (suc n)) in
    elim (same_or w (suc n)) [
      | inl q ↦
          let r : gather n f ≡ gather n g = gather-same n f g (λ j _ k. e j (λ s. absurd (omega arith))) in
          let fw : weigh h (f w) ≡ weigh h (f (suc n)) = ap (λ j. weigh h (f j)) q in
          let gw : weigh h (g w) ≡ weigh h (g (suc n)) = ap (λ j. weigh h (g j)) q in
          let r' = ap (weigh h) r in
          omega arith
      | inr q ↦
          let c = gather-change h n w f g l (omega arith) e in
          let d = ap (weigh h) (e (suc n) (λ s. q (sym s))) in
          omega arith
    ]

pub gather-nil : {A : Type 0} (n : ℕ) (f : ℕ → List A) → ((w : ℕ) → 1 ≤ w → w ≤ n → f w ≡ []) → gather n f ≡ []
gather-nil zero f e = refl
gather-nil (suc n) f e =
    let a = gather-nil n f (λ w l m. e w l (omega arith)) in
    let b = e (suc n) (omega arith) (omega arith) in
    rw (a, b) refl

-- none weighs anything where they weigh nothing together
pub gather-none : {A : Type 0} (h : A → ℕ) (n w : ℕ) (f : ℕ → List A) → 1 ≤ w → w ≤ n → weigh h (f w) ≤ weigh h (gather n f)
gather-none h zero w f l m = absurd (omega arith)
gather-none h (suc n) w f l m =
    let a = weigh-append h (gather n f) (f (suc n)) in
    elim (same_or w (suc n)) [
      | inl q ↦ let fw : weigh h (f w) ≡ weigh h (f (suc n)) = ap (λ j. weigh h (f j)) q in omega arith
      | inr q ↦ let c = gather-none h n w f l (omega arith) in omega arith
    ]
