-- Parts that keep the batches that they took.
use Rattle.std.proofs.Common.{◌≡◌, ℕ, ◌⊎◌, inl, inr, Bool, true, false, cond, nat_lt, ◌&&◌, List, [], ◌∷◌, ◌++◌, refl, sym, ◌∙◌, ap, ap₂, IsTrue}
use Rattle.std.proofs.lemmas.List.{map-append}
use Rattle.scalar_value.specs.declared.value.Value.{Value}
use Rattle.scalar_value.specs.declared.value.ColType.{ColType}
use Rattle.plan_machine.specs.Batch.{Batch, key, insert_batch, sort_batches, rows_of, gathered}
use Rattle.column_batch.specs.Batches.{BatchValue, fit_kinds}
use Rattle.column_batch.proofs.Fitting.{fit_kinds-append}
use Rattle.plan_nodes.specs.Operators.{flat, item, Each}
use Rattle.plan_nodes.specs.Examples.{bare, from_front, HaveKinds, Keeps, first_kinds}

have-append : (kinds : List ColType) (xs ys : List BatchValue) → HaveKinds kinds xs → HaveKinds kinds ys → HaveKinds kinds (xs ++ ys)
have-append kinds [] ys h k = k
have-append kinds (x ∷ xs) ys h k = (h.0, h.1, have-append kinds xs ys h.2 k)

pub keeps-push : (kinds : List ColType) (part : List BatchValue) (taken : List (Batch (List Value))) (b : BatchValue) (from : ℕ) → Keeps kinds part taken → b.kinds ≡ kinds → IsTrue (fit_kinds b.kinds b.rows) → Keeps kinds (part ++ b ∷ []) (taken ++ item b from ∷ [])
keeps-push kinds part taken b from keeps same fit = (
  map-append {A = Batch (List Value)} (λ t. record t { from = 0 }) taken (item b from ∷ []) ∙ ap (λ zs. zs ++ item b 0 ∷ []) keeps.0 ∙ sym (map-append (λ x. item x 0) part (b ∷ [])),
  have-append kinds part (b ∷ []) keeps.1 (same, rw (← same) fit, tt),
)

pub keeps-flat : (kinds : List ColType) (parts : List (List BatchValue)) (lists : List (List (Batch (List Value)))) → Each (Keeps kinds) parts lists → Keeps kinds (flat parts) (flat lists)
keeps-flat kinds [] [] each = (refl, tt)
keeps-flat kinds [] (ts ∷ lists) each = absurd each
keeps-flat kinds (p ∷ parts) [] each = absurd each
keeps-flat kinds (p ∷ parts) (ts ∷ lists) each =
    let rest = keeps-flat kinds parts lists each.1 in (
      map-append {A = Batch (List Value)} (λ t. record t { from = 0 }) ts (flat lists) ∙ ap₂ (λ xs ys. xs ++ ys) each.0.0 rest.0 ∙ sym (map-append (λ x. item x 0) p (flat parts)),
      have-append kinds p (flat parts) each.0.1 rest.1,
    )

rows-front : (ts : List (Batch (List Value))) → rows_of (from_front ts) ≡ rows_of ts
rows-front [] = refl
rows-front (t ∷ ts) = ap (λ zs. t.rows ++ zs) (rows-front ts)

insert-front : (x : Batch (List Value)) (ys : List (Batch (List Value))) → insert_batch (record x { from = 0 }) (from_front ys) ≡ from_front (insert_batch x ys)
insert-front x [] = refl
insert-front x (y ∷ ys) =
    elim (nat_lt (key y) (key x)) as (λ b. cond b (record y { from = 0 } ∷ insert_batch (record x { from = 0 }) (from_front ys)) (record x { from = 0 } ∷ record y { from = 0 } ∷ from_front ys) ≡ from_front (cond b (y ∷ insert_batch x ys) (x ∷ y ∷ ys))) [
      | true ↦ ap (λ zs. record y { from = 0 } ∷ zs) (insert-front x ys)
      | false ↦ refl
    ]

sort-front : (ts : List (Batch (List Value))) → sort_batches (from_front ts) ≡ from_front (sort_batches ts)
sort-front [] = refl
sort-front (t ∷ ts) = ap (insert_batch (record t { from = 0 })) (sort-front ts) ∙ insert-front t (sort_batches ts)

pub keeps-rows : (kinds : List ColType) (part : List BatchValue) (taken : List (Batch (List Value))) → Keeps kinds part taken → rows_of (bare part) ≡ rows_of taken
keeps-rows kinds part taken keeps = ap rows_of (sym keeps.0) ∙ rows-front taken

pub keeps-gathered : (kinds : List ColType) (part : List BatchValue) (taken : List (Batch (List Value))) → Keeps kinds part taken → gathered (bare part) ≡ gathered taken
unfolding gathered
keeps-gathered kinds part taken keeps = ap (λ xs. rows_of (sort_batches xs)) (sym keeps.0) ∙ ap rows_of (sort-front taken) ∙ rows-front (sort_batches taken)

pub both-true : (a b : Bool) → a ≡ true → b ≡ true → (a && b) ≡ true
both-true a b p q = rw p q

pub left-true : (a b : Bool) → (a && b) ≡ true → a ≡ true
left-true true b h = refl
left-true false b h = h

pub right-true : (a b : Bool) → (a && b) ≡ true → b ≡ true
right-true true b h = h
right-true false b h = absurd (cc)

fit-insert : (kinds : List ColType) (x : Batch (List Value)) (ys : List (Batch (List Value))) → IsTrue (fit_kinds kinds x.rows) → IsTrue (fit_kinds kinds (rows_of ys)) → IsTrue (fit_kinds kinds (rows_of (insert_batch x ys)))
fit-insert kinds x [] p q = fit_kinds-append kinds x.rows [] ∙ both-true (fit_kinds kinds x.rows) true p refl
fit-insert kinds x (y ∷ ys) p q =
    let parts : (fit_kinds kinds y.rows && fit_kinds kinds (rows_of ys)) ≡ true = sym (fit_kinds-append kinds y.rows (rows_of ys)) ∙ q in
    let first = left-true (fit_kinds kinds y.rows) (fit_kinds kinds (rows_of ys)) parts in
    let rest = right-true (fit_kinds kinds y.rows) (fit_kinds kinds (rows_of ys)) parts in
    elim (nat_lt (key y) (key x)) as (λ b. IsTrue (fit_kinds kinds (rows_of (cond b (y ∷ insert_batch x ys) (x ∷ y ∷ ys))))) [
      | true ↦ fit_kinds-append kinds y.rows (rows_of (insert_batch x ys)) ∙ both-true (fit_kinds kinds y.rows) (fit_kinds kinds (rows_of (insert_batch x ys))) first (fit-insert kinds x ys p rest)
      | false ↦ fit_kinds-append kinds x.rows (rows_of (y ∷ ys)) ∙ both-true (fit_kinds kinds x.rows) (fit_kinds kinds (rows_of (y ∷ ys))) p q
    ]

fit-sorted : (kinds : List ColType) (part : List BatchValue) → HaveKinds kinds part → IsTrue (fit_kinds kinds (rows_of (sort_batches (bare part))))
fit-sorted kinds [] have = refl
fit-sorted kinds (b ∷ part) have = fit-insert kinds (item b 0) (sort_batches (bare part)) have.1 (fit-sorted kinds part have.2)

pub keeps-fit : (kinds : List ColType) (part : List BatchValue) → HaveKinds kinds part → IsTrue (fit_kinds kinds (gathered (bare part)))
unfolding gathered
keeps-fit kinds part have = fit-sorted kinds part have

-- where it took a batch, the first has the columns of all; where it took none it has no rows
pub first-kinds : (kinds : List ColType) (part : List BatchValue) → HaveKinds kinds part → (gathered (bare part) ≡ []) ⊎ (first_kinds part ≡ kinds)
unfolding gathered
first-kinds kinds [] have = inl refl
first-kinds kinds (b ∷ part) have = inr have.0
