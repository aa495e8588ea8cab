-- Rows that fit the types of columns: behind one another, in part, by a test and at places.
use Prim.Native.Nat.{zero}
use Rattle.std.proofs.Common.{◌≡◌, ℕ, suc, ◌<◌, arith, Bool, true, false, ◌&&◌, cond, List, [], ◌∷◌, take, drop, filter, length, refl, sym, ◌∙◌, ap, ap₂, ◌-◌}
use Rattle.std.specs.Prelude.{All, IsTrue, slice_index_or, slice_range}
use Rattle.std.proofs.lemmas.List.Elements.{All-head, All-tail}
use Rattle.scalar_value.specs.declared.value.ColType.{ColType}
use Rattle.scalar_value.specs.declared.value.Value.{Value}
use Rattle.scalar_value.specs.Order.{is_of_type}
use Rattle.row_table.specs.declared.field.Field.{Field}
use Rattle.row_table.specs.Tables.{fits_row, fit_rows}
use Rattle.column_batch.specs.Batches.{kinds_of, fits_kinds, fit_kinds, rows_at}
use Rattle.column_batch.specs.BatchLaws.{FitsByKinds, FitsJoined, FitsTaken, FitsDropped, FitsFiltered, FitsPlaced}

fits_kinds-row : (schema : List Field) (row : List Value) → fits_row schema row ≡ fits_kinds (kinds_of schema) row
fits_kinds-row [] [] = refl
fits_kinds-row [] (v ∷ vs) = refl
fits_kinds-row (f ∷ fs) [] = refl
fits_kinds-row (f ∷ fs) (v ∷ vs) = ap (λ b. is_of_type f.kind v && b) (fits_kinds-row fs vs)

pub fit_kinds-rows : FitsByKinds
fit_kinds-rows schema [] = refl
fit_kinds-rows schema (row ∷ rows) = ap₂ (λ a b. a && b) (fits_kinds-row schema row) (fit_kinds-rows schema rows)

and-assoc : (a b c : Bool) → a && (b && c) ≡ (a && b) && c
and-assoc true b c = refl
and-assoc false b c = refl

pub fit_kinds-append : FitsJoined
fit_kinds-append kinds [] ys = refl
fit_kinds-append kinds (x ∷ xs) ys =
    ap (λ b. fits_kinds kinds x && b) (fit_kinds-append kinds xs ys) ∙ and-assoc (fits_kinds kinds x) (fit_kinds kinds xs) (fit_kinds kinds ys)

and-left : (a b : Bool) → IsTrue (a && b) → IsTrue a
and-left true b h = refl
and-left false b h = h

and-right : (a b : Bool) → IsTrue (a && b) → IsTrue b
and-right true b h = h
and-right false b h = cc

and-both : (a b : Bool) → IsTrue a → IsTrue b → IsTrue (a && b)
and-both true b p q = q
and-both false b p q = cc

pub fit_kinds-take : FitsTaken
fit_kinds-take kinds zero rows h = refl
fit_kinds-take kinds (suc n) [] h = refl
fit_kinds-take kinds (suc n) (row ∷ rows) h =
    and-both (fits_kinds kinds row) (fit_kinds kinds (take n rows)) (and-left _ (fit_kinds kinds rows) h) (fit_kinds-take kinds n rows (and-right (fits_kinds kinds row) _ h))

pub fit_kinds-drop : FitsDropped
fit_kinds-drop kinds zero rows h = h
fit_kinds-drop kinds (suc n) [] h = refl
fit_kinds-drop kinds (suc n) (row ∷ rows) h = fit_kinds-drop kinds n rows (and-right (fits_kinds kinds row) _ h)

pub fit_kinds-filter : FitsFiltered
fit_kinds-filter kinds test [] h = refl
fit_kinds-filter kinds test (row ∷ rows) h =
    let rest = fit_kinds-filter kinds test rows (and-right (fits_kinds kinds row) _ h) in
    elim (test row) as (λ b. IsTrue (fit_kinds kinds (cond b (row ∷ filter test rows) (filter test rows)))) [
      | true ↦ and-both (fits_kinds kinds row) (fit_kinds kinds (filter test rows)) (and-left _ (fit_kinds kinds rows) h) rest
      | false ↦ rest
    ]

fits_kinds-at : (kinds : List ColType) (rows : List (List Value)) (place : ℕ) → IsTrue (fit_kinds kinds rows) → place < length rows → IsTrue (fits_kinds kinds (slice_index_or rows place []))
fits_kinds-at kinds [] place h below = absurd (omega arith)
fits_kinds-at kinds (row ∷ rows) zero h below = and-left _ (fit_kinds kinds rows) h
fits_kinds-at kinds (row ∷ rows) (suc n) h below = fits_kinds-at kinds rows n (and-right (fits_kinds kinds row) _ h) (omega arith)

pub fit_kinds-at : FitsPlaced
fit_kinds-at kinds rows [] h all = refl
fit_kinds-at kinds rows (place ∷ places) h all =
    and-both (fits_kinds kinds (slice_index_or rows place [])) (fit_kinds kinds (rows_at rows places)) (fits_kinds-at kinds rows place h (All-head (λ p. p < length rows) place places all)) (fit_kinds-at kinds rows places h (All-tail (λ p. p < length rows) place places all))

-- ---- what is made of rows that fit, fits

pub fits_made : (schema : List Field) (source : List (List Value)) (kinds : List ColType) (rows : List (List Value))
    → kinds ≡ kinds_of schema → rows ≡ source → IsTrue (fit_rows schema source) → IsTrue (fit_kinds kinds rows)
fits_made schema source kinds rows k r h = ap₂ fit_kinds k r ∙ sym (fit_kinds-rows schema source) ∙ h

pub fits_sliced : (given : List ColType) (source : List (List Value)) (start end : ℕ) (kinds : List ColType) (rows : List (List Value))
    → kinds ≡ given → rows ≡ slice_range source start end → IsTrue (fit_kinds given source) → IsTrue (fit_kinds kinds rows)
fits_sliced given source start end kinds rows k r h =
    ap₂ fit_kinds k r ∙ fit_kinds-take given (end - start) (drop start source) (fit_kinds-drop given start source h)

pub fits_placed : (given : List ColType) (source : List (List Value)) (places : List ℕ) (kinds : List ColType) (rows : List (List Value))
    → kinds ≡ given → rows ≡ rows_at source places → All (λ place. place < length source) places → IsTrue (fit_kinds given source) → IsTrue (fit_kinds kinds rows)
fits_placed given source places kinds rows k r below h = ap₂ fit_kinds k r ∙ fit_kinds-at given source places h below
