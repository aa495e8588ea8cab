-- Rows that fit the columns before a verb fit those after it.
use Rattle.std.proofs.Common.{◌≡◌, ℕ, zero, suc, Bool, true, false, ◌&&◌, cond, Option, Some, None, List, [], ◌∷◌, ◌++◌, map, filter, Result, Ok, Err, IsTrue, refl, ap, set, fold}
use Rattle.std.specs.List.{list_all}
use Rattle.scalar_value.specs.declared.value.Value.{Value}
use Rattle.scalar_value.specs.declared.value.ColType.{ColType}
use Rattle.scalar_value.specs.Order.{is_of_type}
use Rattle.scalar_value.specs.Truths.{is_missing}
use Rattle.row_table.specs.declared.field.Field.{Field}
use Rattle.row_table.specs.Tables.{fits_row, fit_rows}
use Rattle.agg_rules.specs.Windows.{value_at}
use Rattle.na_expr.specs.declared.expr.TypeFault.{TypeFault}
use Rattle.na_expr.specs.Types.{typed}
use Rattle.na_expr.specs.Evaluation.{val}
use Rattle.na_expr.proofs.TypedValues.{values_typed}
use Rattle.verb_forms.specs.declared.part.Part.{Part}
use Rattle.verb_forms.specs.declared.verb.Verb.{Verb}
use Rattle.verb_forms.specs.declared.verb.Verb.TheVariants.{Filter, Mutate, Select, Rename, Relocate, GroupBy, Ungroup, DropNa, ReplaceNa}
use Rattle.verb_forms.specs.Shapes.{ShapeValue}
use Rattle.verb_forms.specs.Columns.{kind_at, place_of, put, chosen_columns}
use Rattle.verb_forms.specs.After.{type_or_lgl, part_kind, with_part, with_parts, after}
use Rattle.verb_forms.specs.Suits.{is_empty, has_type, is_typed, are_typed, is_place, fits_column, is_grouping, has_form}
use Rattle.verb_meaning.specs.Rows.{passes, part_value, with_value, with_values, picked, is_whole, with_cell, with_cells, rows_after}

left_true : (a b : Bool) → (a && b) ≡ true → a ≡ true
left_true true b h = refl
left_true false b h = h

right_true : (a b : Bool) → (a && b) ≡ true → b ≡ true
right_true true b h = h
right_true false b h = absurd (cc)

both_true : (a b : Bool) → a ≡ true → b ≡ true → (a && b) ≡ true
both_true a b p q = rw p q

-- ---- all rows

filter-fits : (fields : List Field) (p : List Value → Bool) (rows : List (List Value)) → IsTrue (fit_rows fields rows) → IsTrue (fit_rows fields (filter p rows))
filter-fits fields p [] h = refl
filter-fits fields p (row ∷ rows) h =
    let rest : IsTrue (fit_rows fields (filter p rows)) = filter-fits fields p rows (right_true (fits_row fields row) (fit_rows fields rows) h) in
    elim (p row) as (λ b. IsTrue (fit_rows fields (cond b (row ∷ filter p rows) (filter p rows)))) [
      | true ↦ both_true (fits_row fields row) (fit_rows fields (filter p rows)) (left_true (fits_row fields row) (fit_rows fields rows) h) rest
      | false ↦ rest
    ]

map-fits : (fields others : List Field) (f : List Value → List Value) → ((row : List Value) → IsTrue (fits_row fields row) → IsTrue (fits_row others (f row)))
    → (rows : List (List Value)) → IsTrue (fit_rows fields rows) → IsTrue (fit_rows others (map f rows))
map-fits fields others f each [] h = refl
map-fits fields others f each (row ∷ rows) h =
    both_true (fits_row others (f row)) (fit_rows others (map f rows)) (each row (left_true (fits_row fields row) (fit_rows fields rows) h))
    (map-fits fields others f each rows (right_true (fits_row fields row) (fit_rows fields rows) h))

-- ---- one row

at-fits : (fields : List Field) (row : List Value) (at : ℕ) → IsTrue (fits_row fields row) → IsTrue (is_of_type (kind_at fields at) (value_at row at))
at-fits [] [] at h = refl
at-fits [] (v ∷ row) at h = absurd (cc)
at-fits (f ∷ fields) [] at h = absurd (cc)
at-fits (f ∷ fields) (v ∷ row) zero h = left_true (is_of_type f.kind v) (fits_row fields row) h
at-fits (f ∷ fields) (v ∷ row) (suc at) h = at-fits fields row at (right_true (is_of_type f.kind v) (fits_row fields row) h)

picked-fits : (fields : List Field) (chosen : List (ℕ × List ℕ)) (row : List Value) → IsTrue (fits_row fields row) → IsTrue (fits_row (chosen_columns fields chosen) (picked chosen row))
picked-fits fields [] row h = refl
picked-fits fields (c ∷ chosen) row h =
    both_true (is_of_type (kind_at fields c.0) (value_at row c.0)) (fits_row (chosen_columns fields chosen) (picked chosen row)) (at-fits fields row c.0 h) (picked-fits fields chosen row h)

last-fits : (fields : List Field) (row : List Value) (f : Field) (v : Value) → IsTrue (fits_row fields row) → IsTrue (is_of_type f.kind v) → IsTrue (fits_row (fields ++ f ∷ []) (row ++ v ∷ []))
last-fits [] [] f v h t = both_true (is_of_type f.kind v) true t refl
last-fits [] (w ∷ row) f v h t = absurd (cc)
last-fits (g ∷ fields) [] f v h t = absurd (cc)
last-fits (g ∷ fields) (w ∷ row) f v h t =
    both_true (is_of_type g.kind w) (fits_row (fields ++ f ∷ []) (row ++ v ∷ [])) (left_true (is_of_type g.kind w) (fits_row fields row) h)
    (last-fits fields row f v (right_true (is_of_type g.kind w) (fits_row fields row) h) t)

set-fits : (fields : List Field) (row : List Value) (at : ℕ) (f : Field) (v : Value) → IsTrue (fits_row fields row) → IsTrue (is_of_type f.kind v) → IsTrue (fits_row (set fields at f) (set row at v))
set-fits [] [] at f v h t = refl
set-fits [] (w ∷ row) at f v h t = absurd (cc)
set-fits (g ∷ fields) [] at f v h t = absurd (cc)
set-fits (g ∷ fields) (w ∷ row) zero f v h t = both_true (is_of_type f.kind v) (fits_row fields row) t (right_true (is_of_type g.kind w) (fits_row fields row) h)
set-fits (g ∷ fields) (w ∷ row) (suc at) f v h t =
    both_true (is_of_type g.kind w) (fits_row (set fields at f) (set row at v)) (left_true (is_of_type g.kind w) (fits_row fields row) h)
    (set-fits fields row at f v (right_true (is_of_type g.kind w) (fits_row fields row) h) t)

put-fits : (place : Option ℕ) (fields : List Field) (row : List Value) (f : Field) (v : Value) → IsTrue (fits_row fields row) → IsTrue (is_of_type f.kind v) → IsTrue (fits_row (put place f fields) (put place v row))
put-fits None fields row f v h t = last-fits fields row f v h t
put-fits (Some at) fields row f v h t = set-fits fields row at f v h t

-- a value that its column may hold in the place of another
replaced-fits : (fields : List Field) (row : List Value) (at : ℕ) (v : Value) → IsTrue (fits_row fields row) → IsTrue (is_of_type (kind_at fields at) v) → IsTrue (fits_row fields (set row at v))
replaced-fits [] [] at v h t = refl
replaced-fits [] (w ∷ row) at v h t = absurd (cc)
replaced-fits (g ∷ fields) [] at v h t = absurd (cc)
replaced-fits (g ∷ fields) (w ∷ row) zero v h t = both_true (is_of_type g.kind v) (fits_row fields row) t (right_true (is_of_type g.kind w) (fits_row fields row) h)
replaced-fits (g ∷ fields) (w ∷ row) (suc at) v h t =
    both_true (is_of_type g.kind w) (fits_row fields (set row at v)) (left_true (is_of_type g.kind w) (fits_row fields row) h)
    (replaced-fits fields row at v (right_true (is_of_type g.kind w) (fits_row fields row) h) t)

-- ---- mutate

has-type : (r : Result ColType TypeFault) → has_type r ≡ true → r ≡ Ok (type_or_lgl r)
has-type (Ok t) h = refl
has-type (Err f) h = absurd (cc)

value-fits : (fields : List Field) (value : List ℕ × Part) (row : List Value) → IsTrue (is_typed fields value.1) → IsTrue (fits_row fields row) → IsTrue (fits_row (with_part fields value) (with_value fields value row))
value-fits fields value row h fit =
    put-fits (place_of value.0 fields) fields row (record { name = value.0; kind = part_kind fields value.1 }) (part_value value.1 row) fit
    (values_typed fields row value.1.value (part_kind fields value.1) fit
    (has-type (typed fields value.1.value) (right_true (is_empty value.1.calls) (has_type (typed fields value.1.value)) h)))

values-fit : (fields : List Field) (values : List (List ℕ × Part)) (rows : List (List Value)) → IsTrue (are_typed fields values) → IsTrue (fit_rows fields rows) → IsTrue (fit_rows (with_parts fields values) (with_values fields values rows))
values-fit fields [] rows h fit = fit
values-fit fields (value ∷ values) rows h fit =
    values-fit (with_part fields value) values (map (with_value fields value) rows) (right_true (is_typed fields value.1) (are_typed (with_part fields value) values) h)
    (map-fits fields (with_part fields value) (with_value fields value) (λ row. value-fits fields value row (left_true (is_typed fields value.1) (are_typed (with_part fields value) values) h)) rows fit)

-- ---- replace_na

cell-fits : (fields : List Field) (cell : ℕ × Value) (row : List Value) → IsTrue (fits_column fields cell) → IsTrue (fits_row fields row) → IsTrue (fits_row fields (with_cell row cell))
cell-fits fields cell row h fit =
    elim (is_missing (value_at row cell.0)) as (λ b. IsTrue (fits_row fields (cond b (set row cell.0 cell.1) row))) [
      | true ↦ replaced-fits fields row cell.0 cell.1 fit (right_true (is_place fields cell.0) (is_of_type (kind_at fields cell.0) cell.1) h)
      | false ↦ fit
    ]

cells-fit : (fields : List Field) (cells : List (ℕ × Value)) (row : List Value) → IsTrue (list_all (fits_column fields) cells) → IsTrue (fits_row fields row) → IsTrue (fits_row fields (with_cells cells row))
cells-fit fields [] row h fit = fit
cells-fit fields (cell ∷ cells) row h fit =
    cells-fit fields cells (with_cell row cell) (right_true (fits_column fields cell) (list_all (fits_column fields) cells) h)
    (cell-fits fields cell row (left_true (fits_column fields cell) (list_all (fits_column fields) cells) h) fit)

-- ---- every verb

pub rows-fit : (v : Verb) (x : ShapeValue) (rows : List (List Value)) → IsTrue (has_form v x) → IsTrue (fit_rows x.schema rows) → IsTrue (fit_rows (after v x).schema (rows_after v x.schema rows))
rows-fit (Filter by conditions) x rows h fit = filter-fits x.schema (passes conditions) rows fit
rows-fit (Mutate by values) x rows h fit = values-fit x.schema values rows (right_true (is_grouping x by) (are_typed x.schema values) h) fit
rows-fit (Select chosen) x rows h fit = map-fits x.schema (chosen_columns x.schema chosen) (picked chosen) (picked-fits x.schema chosen) rows fit
rows-fit (Rename chosen) x rows h fit = map-fits x.schema (chosen_columns x.schema chosen) (picked chosen) (picked-fits x.schema chosen) rows fit
rows-fit (Relocate chosen) x rows h fit = map-fits x.schema (chosen_columns x.schema chosen) (picked chosen) (picked-fits x.schema chosen) rows fit
rows-fit (GroupBy columns) x rows h fit = fit
rows-fit Ungroup x rows h fit = fit
rows-fit (DropNa columns) x rows h fit = filter-fits x.schema (is_whole columns) rows fit
rows-fit (ReplaceNa cells) x rows h fit = map-fits x.schema x.schema (with_cells cells) (λ row. cells-fit x.schema cells row h) rows fit
rows-fit v x rows h fit = fit
