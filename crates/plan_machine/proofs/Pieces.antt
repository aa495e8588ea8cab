-- A list of rows that is cut into batches, and batches whose rows a node turns into others.
use Rattle.std.proofs.Common.{◌≡◌, ℕ, zero, suc, ◌+◌, ◌-◌, ◌*◌, ◌/◌, ◌<◌, ◌≤◌, inl, inr, Bool, true, false, cond, List, [], ◌∷◌, ◌++◌, length, take, drop, map, refl, sym, ap, arith, ◌∙◌, take-append-drop, drop_of_length-le}
use Rattle.std.proofs.lemmas.List.{drop-drop}
use Rattle.std.proofs.lemmas.Bool.Decides.{eqb_tells, leb_tells, nat_tests}
use Rattle.plan_machine.specs.Lists.{weigh}
use Rattle.plan_machine.specs.Batch.{Batch, key, rows_of, gathered, has_key, count_at, sort_batches, insert_batch, parts, piece}
use Rattle.plan_machine.specs.Meaning.{SameRows}
use Rattle.plan_machine.proofs.Weigh.{weigh-append, weigh-map, weigh-same, weigh-rows}
use Rattle.plan_machine.proofs.Sorting.{under, IsOrdered, weigh-gathered}
use Rattle.plan_machine.proofs.Same.{IsTest, Same, IsDistinct}

-- so many batches hold all rows
covered : (b n : ℕ) → 1 ≤ b → n ≤ ((n + (b - 1)) / b) * b
covered b n l = omega arith

module _ {R : Type 0} where
  -- c batches of the rows, from batch k on
  abbrev pub pieces : Bool → ℕ → List R → ℕ → ℕ → List (Batch R)
  pieces kept b rows k zero = []
  pieces kept b rows k (suc c) = piece kept b rows k ∷ pieces kept b rows (k + 1) c

  -- all batches of the rows from batch k on
  abbrev pub pieces_from : Bool → ℕ → List R → ℕ → List (Batch R)
  pieces_from kept b rows k = pieces kept b rows k (parts b rows - k)

  pub pieces-next : (kept : Bool) (b : ℕ) (rows : List R) (k : ℕ) → k < parts b rows → pieces_from kept b rows k ≡ piece kept b rows k ∷ pieces_from kept b rows (k + 1)
  pieces-next kept b rows k l =
      let e : parts b rows - k ≡ suc (parts b rows - (k + 1)) = omega arith in
      rw e refl

  pub pieces-end : (kept : Bool) (b : ℕ) (rows : List R) (k : ℕ) → k ≡ parts b rows → pieces_from kept b rows k ≡ []
  pieces-end kept b rows k l = let e : parts b rows - k ≡ 0 = omega arith in rw e refl

  rows_of-pieces : (kept : Bool) (b : ℕ) (rows : List R) → 1 ≤ b → (k c : ℕ) → k + c ≡ parts b rows → rows_of (pieces kept b rows k c) ≡ drop (k * b) rows
  rows_of-pieces kept b rows l k zero e =
      let f : k ≡ parts b rows = omega arith in
      let q : k * b ≡ parts b rows * b = ap (λ n. n * b) f in
      let m = covered b (length rows) l in
      sym (drop_of_length-le rows (omega arith))
  rows_of-pieces kept b rows l k (suc c) e =
      let r = rows_of-pieces kept b rows l (k + 1) c (omega arith) in
      let q : (k + 1) * b ≡ k * b + b = omega arith in
      let d : drop ((k + 1) * b) rows ≡ drop b (drop (k * b) rows) = rw q (sym (drop-drop b (k * b) rows)) in
      ap (λ (t : List R). take b (drop (k * b) rows) ++ t) (r ∙ d) ∙ take-append-drop b (drop (k * b) rows)

  pub rows_of-pieces_from : (kept : Bool) (b : ℕ) (rows : List R) → 1 ≤ b → rows_of (pieces_from kept b rows 0) ≡ rows
  rows_of-pieces_from kept b rows l = rows_of-pieces kept b rows l 0 (parts b rows - 0) (omega arith) ∙ (let e : 0 * b ≡ 0 = omega arith in rw e refl)

  pub weigh-pieces_from : (kept : Bool) (b : ℕ) (rows : List R) → 1 ≤ b → (h : R → ℕ) → weigh (λ x. weigh h x.rows) (pieces_from kept b rows 0) ≡ weigh h rows
  weigh-pieces_from kept b rows l h = let a = weigh-rows h (pieces_from kept b rows 0) in let e = ap (weigh h) (rows_of-pieces_from kept b rows l) in omega arith

  none_under : (b : ℕ) (rows : List R) (k c j : ℕ) → j ≤ k → weigh (under j) (pieces true b rows k c) ≡ 0
  none_under b rows k zero j l = refl
  none_under b rows k (suc c) j l =
      let r = none_under b rows (k + 1) c j (omega arith) in
      let u : under j (piece true b rows k) ≡ 0 = grind (arith, nat_tests) in
      omega arith

  pieces-ordered : (b : ℕ) (rows : List R) (k c : ℕ) → IsOrdered (pieces true b rows k c)
  pieces-ordered b rows k zero = tt
  pieces-ordered b rows k (suc c) = (none_under b rows (k + 1) c k (omega arith), pieces-ordered b rows (k + 1) c)

  insert-first : (x : Batch R) (ys : List (Batch R)) → weigh (under (key x)) ys ≡ 0 → insert_batch x ys ≡ x ∷ ys
  insert-first x [] z = refl
  insert-first x (y ∷ ys) z =
      elim (leb_tells (suc (key y)) (key x)) [
        | inl e ↦ let u : under (key x) y ≡ 1 = rw e.0 refl in absurd (omega arith)
        | inr e ↦ rw e.0 refl
      ]

  sort-ordered : (xs : List (Batch R)) → IsOrdered xs → sort_batches xs ≡ xs
  sort-ordered [] o = refl
  sort-ordered (x ∷ xs) o = ap (insert_batch x) (sort-ordered xs o.1) ∙ insert-first x xs o.0

  pub gathered-pieces : (kept : Bool) (b : ℕ) (rows : List R) → 1 ≤ b → SameRows kept (gathered (pieces_from kept b rows 0)) rows
  unfolding gathered
  gathered-pieces true b rows l = ap (λ (t : List (Batch R)). rows_of t) (sort-ordered (pieces_from true b rows 0) (pieces-ordered b rows 0 (parts b rows - 0))) ∙ rows_of-pieces_from true b rows l
  gathered-pieces false b rows l = λ h. let a = weigh-gathered h (pieces_from false b rows 0) in let c = weigh-pieces_from false b rows l h in omega arith

  none_at : (b : ℕ) (rows : List R) (k c i : ℕ) → i < k → count_at i (pieces true b rows k c) ≡ 0
  none_at b rows k zero i l = refl
  none_at b rows k (suc c) i l =
      let r = none_at b rows (k + 1) c i (omega arith) in
      let u : cond {A = ℕ} (has_key i (piece true b rows k)) 1 0 ≡ 0 = grind (arith, nat_tests) in
      omega arith

  pub pieces-distinct : (b : ℕ) (rows : List R) (k c : ℕ) → IsDistinct (pieces true b rows k c)
  pieces-distinct b rows k zero i = omega arith
  pieces-distinct b rows k (suc c) i =
      let r = pieces-distinct b rows (k + 1) c i in
      elim (eqb_tells k i) [
        | inl e ↦ let z = none_at b rows (k + 1) c i (omega arith) in let u : cond {A = ℕ} (has_key i (piece true b rows k)) 1 0 ≡ 1 = rw e.0 refl in omega arith
        | inr e ↦ let u : cond {A = ℕ} (has_key i (piece true b rows k)) 1 0 ≡ 0 = rw e.0 refl in omega arith
      ]

  -- the same rows, cut
  pub pieces-same : (kept : Bool) (b : ℕ) (xs ys : List R) → 1 ≤ b → SameRows kept xs ys → Same kept (pieces_from kept b xs 0) (pieces_from kept b ys 0)
  pieces-same true b xs ys l s H t = ap (λ (z : List R). weigh H (pieces_from true b z 0)) s
  pieces-same false b xs ys l s H t =
      let a = weigh-same H (λ x. weigh t.0 x.rows) (pieces_from false b xs 0) t.1 in
      let c = weigh-same H (λ x. weigh t.0 x.rows) (pieces_from false b ys 0) t.1 in
      let d = weigh-pieces_from false b xs l t.0 in
      let e = weigh-pieces_from false b ys l t.0 in
      let q = s t.0 in
      omega arith

  insert-map : (g : Batch R → Batch R) → ((x : Batch R) → key (g x) ≡ key x) → (x : Batch R) (ys : List (Batch R)) → insert_batch (g x) (map g ys) ≡ map g (insert_batch x ys)
  insert-map g e x [] = refl
  insert-map g e x (y ∷ ys) =
      let r = insert-map g e x ys in
      elim (leb_tells (suc (key y)) (key x)) [
        | inl q ↦ rw (e x, e y) (rw q.0 (ap (λ (t : List (Batch R)). g y ∷ t) r))
        | inr q ↦ rw (e x, e y) (rw q.0 refl)
      ]

  sort-map : (g : Batch R → Batch R) → ((x : Batch R) → key (g x) ≡ key x) → (xs : List (Batch R)) → sort_batches (map g xs) ≡ map g (sort_batches xs)
  sort-map g e [] = refl
  sort-map g e (x ∷ xs) = ap (insert_batch (g x)) (sort-map g e xs) ∙ insert-map g e x (sort_batches xs)

  rows_of-map : (g : Batch R → Batch R) (p : List R → List R) → p [] ≡ [] → ((xs ys : List R) → p (xs ++ ys) ≡ p xs ++ p ys) → ((x : Batch R) → (g x).rows ≡ p x.rows) → (xs : List (Batch R)) → rows_of (map g xs) ≡ p (rows_of xs)
  rows_of-map g p n a e [] = sym n
  rows_of-map g p n a e (x ∷ xs) =
      let r = rows_of-map g p n a e xs in
      let b = a x.rows (rows_of xs) in
      let q = e x in
      cc

  pub gathered-map : (g : Batch R → Batch R) (p : List R → List R) → p [] ≡ [] → ((xs ys : List R) → p (xs ++ ys) ≡ p xs ++ p ys) → ((x : Batch R) → (g x).rows ≡ p x.rows) → ((x : Batch R) → key (g x) ≡ key x) → (xs : List (Batch R)) → gathered (map g xs) ≡ p (gathered xs)
  unfolding gathered
  gathered-map g p n a e k xs = ap (λ (t : List (Batch R)). rows_of t) (sort-map g k xs) ∙ rows_of-map g p n a e (sort_batches xs)

  pub map-distinct : (g : Batch R → Batch R) → ((x : Batch R) → key (g x) ≡ key x) → (xs : List (Batch R)) → IsDistinct xs → IsDistinct (map g xs)
  map-distinct g e xs d i =
      let a = weigh-map (λ b. cond (has_key i b) 1 0) g xs in
      let s = weigh-same (λ x. cond (has_key i (g x)) 1 0) (λ x. cond (has_key i x) 1 0) xs (λ x. rw (e x) refl) in
      let q = d i in
      omega arith

  -- what rows give that go row by row, weighed
  pub part-weigh : (p : List R → List R) → p [] ≡ [] → ((xs ys : List R) → p (xs ++ ys) ≡ p xs ++ p ys) → (h : R → ℕ) (xs : List R) → weigh h (p xs) ≡ weigh (λ r. weigh h (p (r ∷ []))) xs
  part-weigh p n a h [] = rw n refl
  part-weigh p n a h (x ∷ xs) =
      let e = a (x ∷ []) xs in
      let r = part-weigh p n a h xs in
      let w = ap (weigh h) e in
      let q = weigh-append h (p (x ∷ [])) (p xs) in
      omega arith

  -- a test of what a streaming node gives is a test of what it takes
  pub pull : (kept ke : Bool) (g : Batch R → Batch R) (p : List R → List R) → (kept ≡ true → ke ≡ true) → p [] ≡ [] → ((xs ys : List R) → p (xs ++ ys) ≡ p xs ++ p ys) → ((x : Batch R) → (g x).rows ≡ p x.rows) → (H : Batch R → ℕ) → IsTest kept H → IsTest ke (λ x. H (g x))
  pull kept true g p o n a e H t = tt
  pull true false g p o n a e H t = let q = o refl in cc
  pull false false g p o n a e H t =
      ((λ r. weigh t.0 (p (r ∷ []))), λ x. t.1 (g x) ∙ ap (weigh t.0) (e x) ∙ part-weigh p n a t.0 x.rows)

  pub map-same : (kept ke : Bool) (g : Batch R → Batch R) (p : List R → List R) → (kept ≡ true → ke ≡ true) → p [] ≡ [] → ((xs ys : List R) → p (xs ++ ys) ≡ p xs ++ p ys) → ((x : Batch R) → (g x).rows ≡ p x.rows) → (xs ys : List (Batch R)) → Same ke xs ys → Same kept (map g xs) (map g ys)
  map-same kept ke g p o n a e xs ys s H t =
      let l = weigh-map H g xs in
      let r = weigh-map H g ys in
      let m = s (λ x. H (g x)) (pull kept ke g p o n a e H t) in
      omega arith
