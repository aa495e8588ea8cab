-- Facts that can be decided, and the lowest number of which one holds.
use Rattle.std.proofs.Common.{◌≡◌, ℕ, zero, suc, ◌<◌, ◌≤◌, Bool, true, false, ◌⊎◌, List, [], ◌∷◌, inl, inr, refl, sym, ◌∙◌, ap, arith, subst}
use Rattle.std.proofs.lemmas.Bool.{cases_eq, cases_lt}
use Rattle.plan_machine.specs.declared.entry.Phase.{Phase}
use Rattle.plan_machine.specs.declared.entry.Phase.TheVariants.{Emitting, Folding, Streaming, Tailing, Sealed, Done}

abbrev pub Known : Type 0 → Type 0
Known A = A ⊎ (A → ⊥)

pub both : {A B : Type 0} → Known A → Known B → Known (A × B)
both (inl a) (inl b) = inl (a, b)
both (inl a) (inr nb) = inr (λ c. nb c.1)
both (inr na) k = inr (λ c. na c.0)

pub known_by : {A B : Type 0} → (A → B) → (B → A) → Known A → Known B
known_by f g (inl a) = inl (f a)
known_by f g (inr na) = inr (λ b. na (g b))

pub known_lt : (m n : ℕ) → Known (m < n)
known_lt m n = elim (cases_lt m n) [ inl a ↦ inl a | inr b ↦ inr (λ a. absurd (omega arith)) ]

pub known_le : (m n : ℕ) → Known (m ≤ n)
known_le m n = elim (cases_lt n m) [ inl a ↦ inr (λ b. absurd (omega arith)) | inr b ↦ inl b ]

pub known_bool : (a b : Bool) → Known (a ≡ b)
known_bool true true = inl refl
known_bool true false = inr (λ e. cc)
known_bool false true = inr (λ e. cc)
known_bool false false = inl refl

pub known_nil : {A : Type 0} (xs : List A) → Known (xs ≡ [])
known_nil [] = inl refl
known_nil (x ∷ xs) = inr (λ e. cc)

-- phases told apart by numbers
rank : Phase → ℕ
rank Emitting = 0
rank Folding = 1
rank Streaming = 2
rank Tailing = 3
rank Sealed = 4
rank Done = 5

ranked : ℕ → Phase
ranked zero = Emitting
ranked (suc zero) = Folding
ranked (suc (suc zero)) = Streaming
ranked (suc (suc (suc zero))) = Tailing
ranked (suc (suc (suc (suc zero)))) = Sealed
ranked (suc (suc (suc (suc (suc n))))) = Done

ranked_back : (p : Phase) → ranked (rank p) ≡ p
unfolding rank ranked
ranked_back Emitting = refl
ranked_back Folding = refl
ranked_back Streaming = refl
ranked_back Tailing = refl
ranked_back Sealed = refl
ranked_back Done = refl

pub known_phase : (p q : Phase) → Known (p ≡ q)
known_phase p q = known_by (λ e. sym (ranked_back p) ∙ (ap ranked e ∙ ranked_back q)) (ap rank) (cases_eq (rank p) (rank q))

pub known_three : {A B C : Type 0} → Known A → Known B → Known C → Known (A × B × C)
known_three a b c = known_by (λ d. (d.0, d.1.0, d.1.1)) (λ d. (d.0, (d.1, d.2))) (both a (both b c))

pub known_four : {A B C D : Type 0} → Known A → Known B → Known C → Known D → Known (A × B × C × D)
known_four a b c d = known_by (λ e. (e.0, e.1.0, e.1.1.0, e.1.1.1)) (λ e. (e.0, (e.1, (e.2, e.3)))) (both a (both b (both c d)))

pub known_not : {A : Type 0} → Known A → Known (A → ⊥)
known_not (inl a) = inr (λ na. na a)
known_not (inr na) = inl na

-- the lowest number of which Q holds
pub record Lowest (Q : ℕ → Type 0) : Type 0 where
  pub at : ℕ
  pub holds : Q at
  pub none_below : (j : ℕ) → j < at → Q j → ⊥

search_to : (Q : ℕ → Type 0) → ((n : ℕ) → Known (Q n)) → (k : ℕ) → Lowest Q ⊎ ((j : ℕ) → j < k → Q j → ⊥)
search_to Q known zero = inr (λ j low q. absurd (omega arith))
search_to Q known (suc k) = go (search_to Q known k) (known k)
  where
    go : Lowest Q ⊎ ((j : ℕ) → j < k → Q j → ⊥) → Known (Q k) → Lowest Q ⊎ ((j : ℕ) → j < suc k → Q j → ⊥)
    go (inl l) q = inl l
    go (inr none) (inl q) = inl (record { at = k; holds = q; none_below = none })
    go (inr none) (inr nq) = inr (λ j low q. last j low q (cases_eq j k))
      where
        last : (j : ℕ) → j < suc k → Q j → (j ≡ k) ⊎ (j ≡ k → ⊥) → ⊥
        last j low q (inl e) = nq (subst Q e q)
        last j low q (inr ne) = none j (omega arith) q

-- where Q can hold up to a bound only
pub lowest : (Q : ℕ → Type 0) (bound : ℕ) → ((n : ℕ) → Known (Q n)) → ((n : ℕ) → Q n → n ≤ bound) → Lowest Q ⊎ ((n : ℕ) → Q n → ⊥)
lowest Q bound known up = go (search_to Q known (suc bound))
  where
    go : Lowest Q ⊎ ((j : ℕ) → j < suc bound → Q j → ⊥) → Lowest Q ⊎ ((n : ℕ) → Q n → ⊥)
    go (inl l) = inl l
    go (inr none) = inr (λ n q. let a = up n q in none n (omega arith) q)
