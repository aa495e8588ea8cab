-- Batches that are put one behind another and in the order of their indexes.
use Rattle.std.proofs.Common.{◌≡◌, ℕ, true, false, cond, nat_lt, List, [], ◌∷◌, ◌++◌, refl, sym, ◌∙◌, ap, arith, append_assoc, append-nil}
use Rattle.std.specs.declared.cmp.Ordering.{Ordering}
use Rattle.std.specs.Ordering.{is_gt, nat_cmp}
use Rattle.std.specs.Cmp.{IsTotalOrder}
use Rattle.std.specs.List.Sorted.{IsSorted, IsStable}
use Rattle.std.proofs.lemmas.Cmp.{nat_cmp_total}
use Rattle.std.proofs.lemmas.Bool.Decides.{nat_tests}
use Rattle.row_table.specs.Sorting.{insert_by, sorted_by}
use Rattle.row_table.proofs.Stable.{sorted_by-only}
use Rattle.plan_machine.specs.Batch.{key_of, insert_batch, sort_batches, rows_of}
use Rattle.column_batch.specs.Batches.{BatchValue}
use Rattle.plan_nodes.specs.Operators.{flat, item}
use Rattle.plan_nodes.specs.Examples.{bare}

pub flat-push : {A : Type 0} (xs : List (List A)) (x : List A) → flat (xs ++ x ∷ []) ≡ flat xs ++ x
flat-push [] x = simp append-nil
flat-push (y ∷ ys) x = ap (λ zs. y ++ zs) (flat-push ys x) ∙ sym (append_assoc y (flat ys) x)

pub rows_of-push : (xs : List BatchValue) (x : BatchValue) → rows_of (bare (xs ++ x ∷ [])) ≡ rows_of (bare xs) ++ x.rows
rows_of-push [] x = simp append-nil
rows_of-push (y ∷ ys) x = ap (λ zs. y.rows ++ zs) (rows_of-push ys x) ∙ sym (append_assoc y.rows (rows_of (bare ys)) x.rows)

-- the order of batches by their indexes
abbrev pub by_index : BatchValue → BatchValue → Ordering
by_index x y = nat_cmp (key_of x.index) (key_of y.index)

by_index-total : IsTotalOrder by_index
by_index-total = record {
  antisymm = λ x y. nat_cmp_total.antisymm (key_of x.index) (key_of y.index);
  trans = λ x y z. nat_cmp_total.trans (key_of x.index) (key_of y.index) (key_of z.index);
  congr = λ x y z. nat_cmp_total.congr (key_of x.index) (key_of y.index) (key_of z.index);
}

greater : (m n : ℕ) → is_gt (nat_cmp m n) ≡ nat_lt n m
greater m n = grind (arith, nat_tests)

insert-bare : (x : BatchValue) (ys : List BatchValue) → bare (insert_by by_index x ys) ≡ insert_batch (item x 0) (bare ys)
unfolding insert_by
insert-bare x [] = refl
insert-bare x (y ∷ ys) =
    rw greater (elim (nat_lt (key_of y.index) (key_of x.index)) as (λ b. bare (cond b (y ∷ insert_by by_index x ys) (x ∷ y ∷ ys)) ≡ cond b (item y 0 ∷ insert_batch (item x 0) (bare ys)) (item x 0 ∷ item y 0 ∷ bare ys)) [
      | true ↦ ap (λ zs. item y 0 ∷ zs) (insert-bare x ys)
      | false ↦ refl
    ])

sorted-bare : (xs : List BatchValue) → bare (sorted_by by_index xs) ≡ sort_batches (bare xs)
unfolding sorted_by
sorted-bare [] = refl
sorted-bare (x ∷ xs) = insert-bare x (sorted_by by_index xs) ∙ ap (insert_batch (item x 0)) (sorted-bare xs)

-- a stable sort by the index puts them in the order of the machine
pub stable-bare : (xs ys : List BatchValue) → IsSorted by_index ys → IsStable by_index xs ys → bare ys ≡ sort_batches (bare xs)
stable-bare xs ys up stable = ap bare (sorted_by-only by_index by_index-total xs ys up stable) ∙ sorted-bare xs
