-- What a window holds of the rows that were offered to it.
use Prim.Native.Nat.{zero}
use Rattle.std.proofs.Common.{◌≡◌, ℕ, suc, ◌+◌, ◌-◌, ◌<◌, ◌≤◌, ◌⊎◌, inl, inr, Bool, true, false, cond, nat_lt, List, [], ◌∷◌, ◌++◌, length, take, drop, refl, sym, ◌∙◌, ap, ap₂, subst, arith, append-nil, append_assoc, length-append}
use Rattle.std.proofs.lemmas.List.{take_all, take-append-le}
use Rattle.std.proofs.lemmas.Bool.Decides.{nat_tests}
use Rattle.std.proofs.Math.Seq.{take-nil}
use Rattle.scalar_value.specs.declared.value.Value.{Value}
use Rattle.hash_join.specs.declared.window.Window.{Window}
use Rattle.hash_join.specs.Windows.{offered, offers}

pub offers-append : (w : Window) (xs ys : List (List Value)) → offers w (xs ++ ys) ≡ offers (offers w xs) ys
offers-append w [] ys = refl
offers-append w (x ∷ xs) ys = offers-append (offered w x) xs ys

-- a window that knows of more rows changes no more
pub offers-more : (w : Window) (xs : List (List Value)) → w.more ≡ true → offers w xs ≡ w
offers-more w [] e = refl
offers-more w (x ∷ xs) e =
    let same : offered w x ≡ w = ap (λ b. cond b w (cond (nat_lt 0 w.skip) (record w { skip = w.skip - 1 }) (cond (nat_lt (length w.rows) w.size) (record w { rows = w.rows ++ x ∷ [] }) (record w { more = true })))) e in
    ap (λ v. offers v xs) same ∙ offers-more w xs e

below : (m n : ℕ) → m < n → nat_lt m n ≡ true
below m n h = grind (arith, nat_tests)

not-below : (m n : ℕ) → n ≤ m → nat_lt m n ≡ false
not-below m n h = grind (arith, nat_tests)

compare : (m n : ℕ) → (m < n) ⊎ (n ≤ m)
compare m n = grind (arith, nat_tests)

abbrev pub open_at : ℕ → ℕ → List (List Value) → Window
open_at skip size rows = record { skip = skip; size = size; rows = rows; more = false }

-- the next row, where there is room and where there is none
room : (size : ℕ) (rows : List (List Value)) (x : List Value) → length rows < size → offered (open_at 0 size rows) x ≡ open_at 0 size (rows ++ x ∷ [])
room size rows x h = ap (λ b. cond b (open_at 0 size (rows ++ x ∷ [])) (record (open_at 0 size rows) { more = true })) (below (length rows) size h)

no-room : (size : ℕ) (rows : List (List Value)) (x : List Value) → size ≤ length rows → offered (open_at 0 size rows) x ≡ record (open_at 0 size rows) { more = true }
no-room size rows x h = ap (λ b. cond b (open_at 0 size (rows ++ x ∷ [])) (record (open_at 0 size rows) { more = true })) (not-below (length rows) size h)

-- of all rows the first, and whether there are more
pub record Shows (w : Window) (size : ℕ) (all : List (List Value)) : Type 0 where
  pub rows : w.rows ≡ take size all
  pub more : w.more ≡ nat_lt size (length all)

full : (size : ℕ) (rows : List (List Value)) (x : List Value) (xs : List (List Value)) → length rows ≡ size → Shows (record (open_at 0 size rows) { more = true }) size (rows ++ x ∷ xs)
full size rows x xs h = record {
  rows = sym (take-append-le size rows (x ∷ xs) (omega arith) ∙ take_all size rows (omega arith));
  more = sym (below size (length (rows ++ x ∷ xs)) (let e = length-append rows (x ∷ xs) in omega (arith, e)));
}

filled : (size : ℕ) (rows xs : List (List Value)) → length rows ≤ size → Shows (offers (open_at 0 size rows) xs) size (rows ++ xs)
filled size rows [] h =
    let e : rows ++ [] ≡ rows = append-nil rows in
    subst (λ all. Shows (open_at 0 size rows) size all) (sym e) (record { rows = sym (take_all size rows h); more = sym (not-below size (length rows) h) })
filled size rows (x ∷ xs) h = elim (compare (length rows) size) [
  | inl p ↦
      let e : length (rows ++ x ∷ []) ≡ length rows + 1 = length-append rows (x ∷ []) in
      let next = filled size (rows ++ x ∷ []) xs (omega (arith, e)) in
      let moved : Shows (offers (open_at 0 size (rows ++ x ∷ [])) xs) size (rows ++ x ∷ xs) = subst (λ all. Shows (offers (open_at 0 size (rows ++ x ∷ [])) xs) size all) (append_assoc rows (x ∷ []) xs) next in
      subst (λ w. Shows (offers w xs) size (rows ++ x ∷ xs)) (sym (room size rows x p)) moved
  | inr p ↦
      let w : Window = record (open_at 0 size rows) { more = true } in
      subst (λ v. Shows (offers v xs) size (rows ++ x ∷ xs)) (sym (no-room size rows x p))
      (subst (λ v. Shows v size (rows ++ x ∷ xs)) (sym (offers-more w xs refl)) (full size rows x xs (omega arith)))
]

-- what a window shows that was open for all rows behind the first `skip`
pub shown : (skip size : ℕ) (xs : List (List Value)) → Shows (offers (open_at skip size []) xs) size (drop skip xs)
shown zero size xs = filled size [] xs (omega arith)
shown (suc n) size [] = record { rows = sym (take-nil size); more = sym (not-below size 0 (omega arith)) }
shown (suc n) size (x ∷ xs) =
    let e : offered (open_at (suc n) size []) x ≡ open_at n size [] =
    ap₂ (λ (b : Bool) (k : ℕ). cond b (open_at k size []) (cond (nat_lt 0 size) (open_at (suc n) size (x ∷ [])) (record (open_at (suc n) size []) { more = true }))) (below 0 (suc n) (omega arith)) (omega arith) in
    subst (λ w. Shows (offers w xs) size (drop n xs)) (sym e) (shown n size xs)
