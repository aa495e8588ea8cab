-- Batches put back into index order, as the batches of index 0, then those of index 1, and so on.
use Rattle.std.proofs.Common.{◌≡◌, ℕ, zero, suc, ◌+◌, ◌<◌, ◌≤◌, inl, inr, true, false, cond, ltb, List, [], ◌∷◌, ◌++◌, refl, sym, ap, arith, ◌∙◌, append_assoc, append-nil}
use Rattle.std.proofs.lemmas.Bool.Decides.{eqb_tells, leb_tells, nat_tests}
use Rattle.plan_machine.specs.Lists.{weigh}
use Rattle.plan_machine.specs.Batch.{Batch, key, insert_batch, sort_batches, rows_of, gathered, has_key, rows_at}
use Rattle.plan_machine.specs.Enabled.{front}
use Rattle.plan_machine.proofs.Weigh.{weigh-append}

module _ {R : Type 0} where
  pub weigh-insert : (h : Batch R → ℕ) (x : Batch R) (ys : List (Batch R)) → weigh h (insert_batch x ys) ≡ h x + weigh h ys
  weigh-insert h x [] = refl
  weigh-insert h x (y ∷ ys) =
      let r = weigh-insert h x ys in
      elim (ltb (key y) (key x)) as (λ b. weigh h (cond b (y ∷ insert_batch x ys) (x ∷ y ∷ ys)) ≡ h x + (h y + weigh h ys)) [
        | true ↦ omega arith
        | false ↦ refl
      ]

  pub weigh-sort : (h : Batch R → ℕ) (xs : List (Batch R)) → weigh h (sort_batches xs) ≡ weigh h xs
  weigh-sort h [] = refl
  weigh-sort h (x ∷ xs) = let a = weigh-insert h x (sort_batches xs) in let r = weigh-sort h xs in omega arith

  -- one for a batch with a key below k
  abbrev pub under : ℕ → Batch R → ℕ
  under k b = cond (ltb (key b) k) 1 0

  abbrev pub IsOrdered : List (Batch R) → Type 0
  IsOrdered [] = Unit {0}
  IsOrdered (x ∷ xs) = (weigh (under (key x)) xs ≡ 0) × IsOrdered xs

  under_less : (j k : ℕ) (b : Batch R) → j ≤ k → under j b ≤ under k b
  under_less j k b l = grind (arith, nat_tests)

  weigh_under_less : (j k : ℕ) (xs : List (Batch R)) → j ≤ k → weigh (under j) xs ≤ weigh (under k) xs
  weigh_under_less j k [] l = omega arith
  weigh_under_less j k (x ∷ xs) l = let a = under_less j k x l in let r = weigh_under_less j k xs l in omega arith

  insert_ordered : (x : Batch R) (ys : List (Batch R)) → IsOrdered ys → IsOrdered (insert_batch x ys)
  insert_ordered x [] o = (refl, tt)
  insert_ordered x (y ∷ ys) o =
      let r = insert_ordered x ys o.1 in
      let w = weigh-insert (under (key y)) x ys in
      elim (leb_tells (suc (key y)) (key x)) [
        | inl e ↦
            let z : under (key y) x ≡ 0 = grind (arith, nat_tests) in
            let g : weigh (under (key y)) (insert_batch x ys) ≡ 0 = omega (arith, o.0) in
            rw e.0 (g, r)
        | inr e ↦
            let z : under (key x) y ≡ 0 = grind (arith, nat_tests) in
            let m = weigh_under_less (key x) (key y) ys (omega arith) in
            let g : weigh (under (key x)) (y ∷ ys) ≡ 0 = omega (arith, o.0) in
            rw e.0 (g, o)
      ]

  pub sort_ordered : (xs : List (Batch R)) → IsOrdered (sort_batches xs)
  sort_ordered [] = tt
  sort_ordered (x ∷ xs) = insert_ordered x (sort_batches xs) (sort_ordered xs)

  rows_at-insert : (i : ℕ) (x : Batch R) (ys : List (Batch R)) → rows_at i (insert_batch x ys) ≡ rows_at i (x ∷ ys)
  rows_at-insert i x [] = refl
  rows_at-insert i x (y ∷ ys) =
      let r = rows_at-insert i x ys in
      elim (leb_tells (suc (key y)) (key x)) [
        | inl e ↦
            rw e.0 (rw r (elim (eqb_tells (key y) i) [
              | inl p ↦ elim (eqb_tells (key x) i) [ inl q ↦ absurd (omega arith) | inr q ↦ rw (p.0, q.0) refl ]
              | inr p ↦ rw p.0 refl
            ]))
        | inr e ↦ rw e.0 refl
      ]

  pub rows_at-sort : (i : ℕ) (xs : List (Batch R)) → rows_at i (sort_batches xs) ≡ rows_at i xs
  rows_at-sort i [] = refl
  rows_at-sort i (x ∷ xs) = rows_at-insert i x (sort_batches xs) ∙ ap (λ (t : List R). cond (has_key i x) (x.rows ++ t) t) (rows_at-sort i xs)

  -- the batches with a key from k on
  abbrev pub keep : ℕ → List (Batch R) → List (Batch R)
  keep k [] = []
  keep k (x ∷ xs) = cond (ltb (key x) k) (keep k xs) (x ∷ keep k xs)

  -- none has a key below k
  rows_at-none : (i k : ℕ) (xs : List (Batch R)) → i < k → weigh (under k) xs ≡ 0 → rows_at i xs ≡ []
  rows_at-none i k [] l z = refl
  rows_at-none i k (x ∷ xs) l z =
      elim (eqb_tells (key x) i) [
        | inl e ↦ let u : under k x ≡ 1 = grind (arith, nat_tests) in absurd (omega arith)
        | inr e ↦ rw e.0 (rows_at-none i k xs l (omega arith))
      ]

  keep-next : (k : ℕ) (xs : List (Batch R)) → IsOrdered xs → rows_of (keep k xs) ≡ rows_at k xs ++ rows_of (keep (suc k) xs)
  keep-next k [] o = refl
  keep-next k (x ∷ xs) o =
      let r = keep-next k xs o.1 in
      elim (eqb_tells (key x) k) [
        | inl e ↦
            let a : ltb (key x) k ≡ false = grind (arith, nat_tests) in
            let b : ltb (key x) (suc k) ≡ true = grind (arith, nat_tests) in
            rw (a, b, e.0) (rw r (sym (append_assoc x.rows (rows_at k xs) (rows_of (keep (suc k) xs)))))
        | inr e ↦
            elim (leb_tells (suc (key x)) k) [
              | inl q ↦
                  let b : ltb (key x) (suc k) ≡ true = grind (arith, nat_tests) in
                  rw (q.0, b, e.0) r
              | inr q ↦
                  let b : ltb (key x) (suc k) ≡ false = grind (arith, nat_tests) in
                  let n : rows_at k xs ≡ [] = rows_at-none k (key x) xs (omega arith) o.0 in
                  let r' : rows_of (keep k xs) ≡ rows_of (keep (suc k) xs) = rw n at r in
                  rw (q.0, b, e.0) (rw (n, r') refl)
            ]
      ]

  keep-zero : (xs : List (Batch R)) → keep 0 xs ≡ xs
  keep-zero [] = refl
  keep-zero (x ∷ xs) = let b : ltb (key x) 0 ≡ false = grind (arith, nat_tests) in rw b (ap (λ (t : List (Batch R)). x ∷ t) (keep-zero xs))

  keep-front : (k : ℕ) (xs : List (Batch R)) → IsOrdered xs → rows_of xs ≡ front k xs ++ rows_of (keep k xs)
  keep-front zero xs o = ap (λ (t : List (Batch R)). rows_of t) (sym (keep-zero xs))
  keep-front (suc k) xs o =
      keep-front k xs o ∙ ap (λ (t : List R). front k xs ++ t) (keep-next k xs o) ∙ sym (append_assoc (front k xs) (rows_at k xs) (rows_of (keep (suc k) xs)))

  pub front-same : (k : ℕ) (xs ys : List (Batch R)) → ((i : ℕ) → i < k → rows_at i xs ≡ rows_at i ys) → front k xs ≡ front k ys
  front-same zero xs ys e = refl
  front-same (suc k) xs ys e =
      let a = front-same k xs ys (λ i l. e i (omega arith)) in
      let b = e k (omega arith) in
      cc

  -- what stands behind the first k indexes
  abbrev pub later : ℕ → List (Batch R) → List R
  later k xs = rows_of (keep k (sort_batches xs))

  pub gathered-front : (k : ℕ) (xs : List (Batch R)) → gathered xs ≡ front k xs ++ later k xs
  unfolding gathered
  gathered-front k xs =
      keep-front k (sort_batches xs) (sort_ordered xs)
      ∙ ap (λ (t : List R). t ++ later k xs) (front-same k (sort_batches xs) xs (λ i _. rows_at-sort i xs))

  pub weigh-gathered : (h : R → ℕ) (xs : List (Batch R)) → weigh h (gathered xs) ≡ weigh (λ b. weigh h b.rows) xs
  unfolding gathered
  weigh-gathered h xs = let a = weigh_rows h (sort_batches xs) in let b = weigh-sort (λ b. weigh h b.rows) xs in omega arith
    where
      weigh_rows : (h : R → ℕ) (ys : List (Batch R)) → weigh h (rows_of ys) ≡ weigh (λ b. weigh h b.rows) ys
      weigh_rows h [] = refl
      weigh_rows h (y ∷ ys) = let e = weigh_rows h ys in let a = weigh-append h y.rows (rows_of ys) in omega arith

  keep-none : (k : ℕ) (xs : List (Batch R)) → weigh key xs < k → keep k xs ≡ []
  keep-none k [] l = refl
  keep-none k (x ∷ xs) l = let b : ltb (key x) k ≡ true = grind (arith, nat_tests) in rw b (keep-none k xs (omega arith))

  -- with no batch from k on, the gathered rows are those of the indexes below
  pub gathered-all : (k : ℕ) (xs : List (Batch R)) → weigh key xs < k → gathered xs ≡ front k xs
  gathered-all k xs l =
      let s = weigh-sort key xs in
      let n : keep k (sort_batches xs) ≡ [] = keep-none k (sort_batches xs) (omega arith) in
      gathered-front k xs ∙ rw n (append-nil (front k xs))
