-- The order of rows is total and ties only equal rows; what sorting a table's rows keeps.
use Rattle.std.proofs.Common.{◌≡◌, ℕ, Bool, true, false, ◌&&◌, cond, List, [], ◌∷◌, sum_by, refl, sym, ◌∙◌, ap}
use Rattle.std.specs.declared.cmp.Ordering.{Ordering}
use Rattle.std.specs.Bool.{Decides}
use Rattle.std.specs.Ordering.{is_eq, is_gt}
use Rattle.std.specs.List.Sorted.{IsSorted, IsPermutation}
use Rattle.std.specs.Cmp.{IsTotalOrder}
use Rattle.std.specs.Cmp.Lexicographic.{lists_total, lists_ties, pointwise_decides}
use Rattle.std.proofs.lemmas.List.Sorted.{sum_by-IsPermutation}
use Rattle.scalar_value.specs.declared.value.Value.{Value}
use Rattle.scalar_value.specs.Order.{value_cmp}
use Rattle.scalar_value.specs.OrderLaws.{value_cmp-total, value_same-decides}
use Rattle.row_table.specs.declared.field.Field.{Field}
use Rattle.row_table.specs.SameTables.{row_same, IsAsOften}
use Rattle.row_table.specs.Sorting.{row_order, insert_by, sorted_by, sorted_rows}
use Rattle.row_table.specs.Tables.{fits_row, fit_rows}
use Rattle.row_table.proofs.Sorting.{ascends_from_sorted, sorted_from_ascends, ascends-sorted, ascending_alike, sum_by-sorted}

pub row_order-total : IsTotalOrder row_order
row_order-total = lists_total value_cmp-total

pub row_same-ties : (x y : List Value) → row_same x y ≡ is_eq (row_order x y)
row_same-ties = lists_ties value_cmp (λ x y. refl)

pub row_same-decides : (x y : List Value) → Decides (row_same x y) (x ≡ y)
row_same-decides = pointwise_decides value_same-decides

-- ---- the sorted rows

pub sorted_rows-sorted : (rows : List (List Value)) → IsSorted row_order (sorted_rows rows)
sorted_rows-sorted rows = sorted_from_ascends row_order row_order-total (sorted_rows rows) (ascends-sorted row_order row_order-total rows)

pub sorted_rows-as_often : (rows : List (List Value)) → IsAsOften (sorted_rows rows) rows
sorted_rows-as_often rows row = sum_by-sorted row_order (λ other. cond (row_same row other) 1 0) rows

pub permuted_as_often : (xs ys : List (List Value)) → IsPermutation xs ys → IsAsOften ys xs
permuted_as_often xs ys moved row = sum_by-IsPermutation (λ other. cond (row_same row other) 1 0) xs ys moved

-- sorted rows that stand as often as these are these, sorted
pub sorted_rows-only : (xs ys : List (List Value)) → IsAsOften ys xs → IsSorted row_order ys → ys ≡ sorted_rows xs
sorted_rows-only xs ys alike up =
    ascending_alike row_order row_order-total row_same row_same-decides row_same-ties ys (sorted_rows xs) (ascends_from_sorted row_order row_order-total ys up)
    (ascends-sorted row_order row_order-total xs) (λ row. alike row ∙ sym (sorted_rows-as_often xs row))

pub sorted_rows_from_sort : (xs ys : List (List Value)) → IsPermutation xs ys → IsSorted row_order ys → ys ≡ sorted_rows xs
sorted_rows_from_sort xs ys moved up = sorted_rows-only xs ys (permuted_as_often xs ys moved) up

pub sorted_rows-alike : (xs ys : List (List Value)) → IsAsOften xs ys → sorted_rows xs ≡ sorted_rows ys
sorted_rows-alike xs ys alike =
    sorted_rows-only ys (sorted_rows xs) (λ row. sorted_rows-as_often xs row ∙ alike row) (sorted_rows-sorted xs)

-- rows that stand equally often weigh the same by every weight
pub sum_by-as_often : (weight : List Value → ℕ) (xs ys : List (List Value)) → IsAsOften xs ys → sum_by weight xs ≡ sum_by weight ys
sum_by-as_often weight xs ys alike =
    sym (sum_by-sorted row_order weight xs) ∙ ap (λ rows. sum_by weight rows) (sorted_rows-alike xs ys alike) ∙ sum_by-sorted row_order weight ys

-- ---- rows that fit the columns fit them when sorted

and_parts : (a b : Bool) → a && b ≡ true → (a ≡ true) × (b ≡ true)
and_parts true b h = (refl, h)
and_parts false b h = (cc, cc)

and_both : (a b : Bool) → a ≡ true → b ≡ true → a && b ≡ true
and_both a b p q = cc

fit_rows-insert : (fields : List Field) (order : List Value → List Value → Ordering) (row : List Value) (rows : List (List Value)) → fits_row fields row ≡ true → fit_rows fields rows ≡ true → fit_rows fields (insert_by order row rows) ≡ true
unfolding insert_by
fit_rows-insert fields order row [] p all = and_both (fits_row fields row) true p refl
fit_rows-insert fields order row (other ∷ rows) p all =
    let parts = and_parts (fits_row fields other) (fit_rows fields rows) all in
    elim (is_gt (order row other)) as (λ b. fit_rows fields (cond b (other ∷ insert_by order row rows) (row ∷ other ∷ rows)) ≡ true) [
      | true ↦ and_both (fits_row fields other) (fit_rows fields (insert_by order row rows)) parts.0 (fit_rows-insert fields order row rows p parts.1)
      | false ↦ and_both (fits_row fields row) (fit_rows fields (other ∷ rows)) p all
    ]

pub fit_rows-sorted : (fields : List Field) (order : List Value → List Value → Ordering) (rows : List (List Value)) → fit_rows fields rows ≡ true → fit_rows fields (sorted_by order rows) ≡ true
unfolding sorted_by
fit_rows-sorted fields order [] all = refl
fit_rows-sorted fields order (row ∷ rows) all =
    let parts = and_parts (fits_row fields row) (fit_rows fields rows) all in
    fit_rows-insert fields order row (sorted_by order rows) parts.0 (fit_rows-sorted fields order rows parts.1)
