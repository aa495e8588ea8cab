-- When two lists of batches are the same to all that may be asked of them.
use Rattle.std.proofs.Common.{◌≡◌, ℕ, zero, suc, ◌≤◌, ◌⊎◌, inl, inr, Bool, true, false, cond, ◌&&◌, List, [], ◌∷◌, refl, sym, ap, ap₂, arith, ◌∙◌, append-nil}
use Rattle.std.proofs.lemmas.Bool.Decides.{eqb_tells}
use Rattle.plan_machine.specs.Lists.{weigh}
use Rattle.plan_machine.specs.Batch.{Batch, key, rows_of, gathered, has_key, rows_at, count_at}
use Rattle.plan_machine.specs.Meaning.{SameRows, SameSet}
use Rattle.plan_machine.specs.WellFormed.{Equality}
use Rattle.plan_machine.proofs.Weigh.{weigh-rows}
use Rattle.plan_machine.proofs.Sorting.{gathered-all, front-same, weigh-gathered}

-- What may be asked of a list of batches: anything where their order is kept, and else a weight of rows.
abbrev pub IsTest : {R : Type 0} → Bool → (Batch R → ℕ) → Type 0
IsTest true H = Unit {0}
IsTest {R} false H = (h : R → ℕ) × ((b : Batch R) → H b ≡ weigh h b.rows)

abbrev pub Same : {R : Type 0} → Bool → List (Batch R) → List (Batch R) → Type 0
Same {R} kept xs ys = (H : Batch R → ℕ) → IsTest kept H → weigh H xs ≡ weigh H ys

-- no two batches have one index
abbrev pub IsDistinct : {R : Type 0} → List (Batch R) → Type 0
IsDistinct xs = (i : ℕ) → count_at i xs ≤ 1

module _ {R : Type 0} where
  pub SameRows-refl : (kept : Bool) (xs : List R) → SameRows kept xs xs
  SameRows-refl true xs = refl
  SameRows-refl false xs = λ h. refl

  pub SameRows-sym : (kept : Bool) (xs ys : List R) → SameRows kept xs ys → SameRows kept ys xs
  SameRows-sym true xs ys s = sym s
  SameRows-sym false xs ys s = λ h. sym (s h)

  pub SameRows-trans : (kept : Bool) (xs ys zs : List R) → SameRows kept xs ys → SameRows kept ys zs → SameRows kept xs zs
  SameRows-trans true xs ys zs s t = s ∙ t
  SameRows-trans false xs ys zs s t = λ h. s h ∙ t h

  pub SameRows-weigh : (kept : Bool) (xs ys : List R) → SameRows kept xs ys → (h : R → ℕ) → weigh h xs ≡ weigh h ys
  SameRows-weigh true xs ys s h = ap (weigh h) s
  SameRows-weigh false xs ys s h = s h

  pub SameRows-equal : (kept : Bool) (xs ys : List R) → xs ≡ ys → SameRows kept xs ys
  SameRows-equal true xs ys e = e
  SameRows-equal false xs ys e = λ h. ap (weigh h) e

  -- the same in order, where order is kept more often
  pub SameRows-looser : (kept loose : Bool) (xs ys : List R) → (loose ≡ true → kept ≡ true) → SameRows kept xs ys → SameRows loose xs ys
  SameRows-looser kept false xs ys o s = SameRows-weigh kept xs ys s
  SameRows-looser true true xs ys o s = s
  SameRows-looser false true xs ys o s = let e = o refl in cc

  pub SameSet-weigh : (xs ys : List R) → ((h : R → ℕ) → weigh h xs ≡ weigh h ys) → SameSet xs ys
  SameSet-weigh xs ys e h = let q = e h in ((λ z. omega arith), (λ z. omega arith))

  pub SameSet-refl : (xs : List R) → SameSet xs xs
  SameSet-refl xs = SameSet-weigh xs xs (λ h. refl)

  -- a weight of rows may always be asked
  pub rows_test : (kept : Bool) (h : R → ℕ) → IsTest kept (λ (b : Batch R). weigh h b.rows)
  rows_test true h = tt
  rows_test false h = (h, λ b. refl)

  pub Same-refl : (kept : Bool) (xs : List (Batch R)) → Same kept xs xs
  Same-refl kept xs H t = refl

  pub Same-rows : (kept : Bool) (xs ys : List (Batch R)) → Same kept xs ys → (h : R → ℕ) → weigh h (rows_of xs) ≡ weigh h (rows_of ys)
  Same-rows kept xs ys s h =
      let a = rows_weigh xs in
      let b = rows_weigh ys in
      let c = s (λ b. weigh h b.rows) (rows_test kept h) in
      omega arith
    where
      rows_weigh : (zs : List (Batch R)) → weigh h (rows_of zs) ≡ weigh (λ b. weigh h b.rows) zs
      rows_weigh zs = weigh-rows h zs

  pub IsDistinct-same : (xs ys : List (Batch R)) → Same true xs ys → IsDistinct xs → IsDistinct ys
  IsDistinct-same xs ys s d i = let e = s (λ b. cond (has_key i b) 1 0) tt in let q = d i in omega arith

module _ {R : Type 0} (E : Equality R) where
  abbrev eq_rows : List R → List R → Bool
  eq_rows [] [] = true
  eq_rows [] (y ∷ ys) = false
  eq_rows (x ∷ xs) [] = false
  eq_rows (x ∷ xs) (y ∷ ys) = E.same x y && eq_rows xs ys

  eq_rows-self : (xs : List R) → eq_rows xs xs ≡ true
  eq_rows-self [] = refl
  eq_rows-self (x ∷ xs) = rw (E.self x, eq_rows-self xs) refl

  both : (a b : Bool) → (a && b) ≡ true → (a ≡ true) × (b ≡ true)
  both true true e = (refl, refl)
  both true false e = cc
  both false b e = cc

  eq_rows-tells : (xs ys : List R) → eq_rows xs ys ≡ true → xs ≡ ys
  eq_rows-tells [] [] e = refl
  eq_rows-tells [] (y ∷ ys) e = cc
  eq_rows-tells (x ∷ xs) [] e = cc
  eq_rows-tells (x ∷ xs) (y ∷ ys) e =
      let p = both (E.same x y) (eq_rows xs ys) e in
      ap₂ (λ (a : R) (b : List R). a ∷ b) (E.tells x y p.0) (eq_rows-tells xs ys p.1)

  -- one for a batch with this index and these rows
  abbrev is_batch : ℕ → List R → Batch R → ℕ
  is_batch i r b = cond (has_key i b) (cond (eq_rows b.rows r) 1 0) 0

  pub none_there : (i : ℕ) (xs : List (Batch R)) → count_at i xs ≡ 0 → rows_at i xs ≡ []
  none_there i [] z = refl
  none_there i (x ∷ xs) z =
      elim (eqb_tells (key x) i) [
        | inl e ↦ let u : cond {A = ℕ} (has_key i x) 1 0 ≡ 1 = rw e.0 refl in absurd (omega arith)
        | inr e ↦ rw e.0 (none_there i xs (omega arith))
      ]

  at_most_one : (b : Bool) → cond {A = ℕ} b 1 0 ≤ 1
  at_most_one true = omega arith
  at_most_one false = omega arith

  is_batch-less : (i : ℕ) (r : List R) (xs : List (Batch R)) → weigh (is_batch i r) xs ≤ count_at i xs
  is_batch-less i r [] = omega arith
  is_batch-less i r (x ∷ xs) =
      let m = is_batch-less i r xs in
      elim (eqb_tells (key x) i) [
        | inl e ↦ let a = at_most_one (eq_rows x.rows r) in
            let u : is_batch i r x ≤ 1 = rw e.0 a in
            let w : cond {A = ℕ} (has_key i x) 1 0 ≡ 1 = rw e.0 refl in omega arith
        | inr e ↦ let u : is_batch i r x ≡ 0 = rw e.0 refl in omega arith
      ]

  tells_one : (b : Bool) → 1 ≤ cond {A = ℕ} b 1 0 → b ≡ true
  tells_one true l = refl
  tells_one false l = absurd (omega arith)

  found : (i : ℕ) (r : List R) (ys : List (Batch R)) → count_at i ys ≤ 1 → 1 ≤ weigh (is_batch i r) ys → rows_at i ys ≡ r
  found i r [] c l = absurd (omega arith)
  found i r (y ∷ ys) c l =
      let m = is_batch-less i r ys in
      elim (eqb_tells (key y) i) [
        | inl e ↦
            let w : cond {A = ℕ} (has_key i y) 1 0 ≡ 1 = rw e.0 refl in
            let z : count_at i ys ≡ 0 = omega arith in
            let u : is_batch i r y ≡ cond {A = ℕ} (eq_rows y.rows r) 1 0 = rw e.0 refl in
            let t : y.rows ≡ r = eq_rows-tells y.rows r (tells_one (eq_rows y.rows r) (omega arith)) in
            let n : rows_at i ys ≡ [] = none_there i ys z in
            rw e.0 (rw n (append-nil y.rows ∙ t))
        | inr e ↦
            let w : cond {A = ℕ} (has_key i y) 1 0 ≡ 0 = rw e.0 refl in
            let u : is_batch i r y ≡ 0 = rw e.0 refl in
            rw e.0 (found i r ys (omega arith) (omega arith))
      ]

  there : (i : ℕ) (xs : List (Batch R)) → count_at i xs ≡ 1 → 1 ≤ weigh (is_batch i (rows_at i xs)) xs
  there i [] c = absurd (omega arith)
  there i (x ∷ xs) c =
      elim (eqb_tells (key x) i) [
        | inl e ↦
            let w : cond {A = ℕ} (has_key i x) 1 0 ≡ 1 = rw e.0 refl in
            let z : count_at i xs ≡ 0 = omega arith in
            let n : rows_at i xs ≡ [] = none_there i xs z in
            let r : rows_at i (x ∷ xs) ≡ x.rows = rw e.0 (rw n (append-nil x.rows)) in
            let u : is_batch i (rows_at i (x ∷ xs)) x ≡ 1 = rw r (rw (e.0, eq_rows-self x.rows) refl) in
            omega arith
        | inr e ↦
            let w : cond {A = ℕ} (has_key i x) 1 0 ≡ 0 = rw e.0 refl in
            let r : rows_at i (x ∷ xs) ≡ rows_at i xs = rw e.0 refl in
            let m = there i xs (omega arith) in
            let q : weigh (is_batch i (rows_at i (x ∷ xs))) xs ≡ weigh (is_batch i (rows_at i xs)) xs = ap (λ t. weigh (is_batch i t) xs) r in
            omega arith
      ]

  pub rows_at-same : (i : ℕ) (xs ys : List (Batch R)) → Same true xs ys → count_at i xs ≤ 1 → rows_at i xs ≡ rows_at i ys
  rows_at-same i xs ys s l =
      let c = s (λ b. cond (has_key i b) 1 0) tt in
      elim (zero_or_one (count_at i xs) l) [
        | inl z ↦ none_there i xs z ∙ sym (none_there i ys (omega arith))
        | inr o ↦
            let t = there i xs o in
            let q = s (is_batch i (rows_at i xs)) tt in
            sym (found i (rows_at i xs) ys (omega arith) (omega arith))
      ]
    where
      zero_or_one : (n : ℕ) → n ≤ 1 → (n ≡ 0) ⊎ (n ≡ 1)
      zero_or_one zero l = inl refl
      zero_or_one (suc n) l = inr (omega arith)

  pub gathered-same : (kept : Bool) (xs ys : List (Batch R)) → Same kept xs ys → (kept ≡ true → IsDistinct xs) → SameRows kept (gathered xs) (gathered ys)
  gathered-same true xs ys s d =
      let K : ℕ = suc (weigh key xs) in
      let w = s key tt in
      gathered-all K xs (omega arith) ∙ front-same K xs ys (λ i _. rows_at-same i xs ys s (d refl i)) ∙ sym (gathered-all K ys (omega arith))
  gathered-same false xs ys s d = λ h.
      let a = weigh-gathered h xs in
      let b = weigh-gathered h ys in
      let c = s (λ b. weigh h b.rows) (h, λ b. refl) in
      omega arith
