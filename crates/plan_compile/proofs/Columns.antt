-- The columns of projects: their types and their values.
use Rattle.std.proofs.Common.{◌≡◌, ℕ, zero, suc, ◌+◌, ◌<◌, ◌≤◌, Bool, true, false, ◌&&◌, Option, Some, None, List, [], ◌∷◌, ◌++◌, length, drop, map, slice_get, unwrap_or, Result, Ok, Err, IsTrue, refl, sym, ◌∙◌, ap, ap₂, subst, arith, add-one}
use Rattle.std.specs.List.{range_with_len, list_all}
use Rattle.std.proofs.lemmas.List.{map-append, map-set}
use Rattle.std.proofs.lemmas.Bool.{ltb-true}
use Rattle.scalar_value.specs.declared.value.Value.{Value}
use Rattle.scalar_value.specs.declared.value.Value.TheVariants.{Missing}
use Rattle.scalar_value.specs.declared.value.ColType.{ColType}
use Rattle.row_table.specs.declared.field.Field.{Field}
use Rattle.row_table.specs.Tables.{fits_row, fit_rows}
use Rattle.agg_rules.specs.Windows.{value_at}
use Rattle.na_expr.specs.declared.expr.Expr.{Expr}
use Rattle.na_expr.specs.declared.expr.Expr.TheVariants.{Col}
use Rattle.na_expr.specs.Evaluation.{val}
use Rattle.na_expr.specs.Types.{typed}
use Rattle.column_batch.specs.Batches.{kinds_of}
use Rattle.plan_nodes.specs.Kinds.{projected}
use Rattle.chain_plans.specs.Chains.{IsStep}
use Rattle.verb_forms.specs.Columns.{kind_of, kind_at, put, chosen_columns}
use Rattle.verb_forms.specs.Suits.{is_place, are_chosen}
use Rattle.verb_meaning.specs.Rows.{picked}
use Rattle.plan_compile.specs.Steps.{all_columns, choice_step}
use Rattle.plan_compile.proofs.Pieces.{typed_column, value_column}
use Rattle.plan_compile.proofs.Conditions.{left_true, right_true}
use Rattle.plan_compile.proofs.Typed.{HaveTypes, project_stands, range_types}

-- ---- rows that fit

pub map_same : {A : Type 0} (schema : List Field) (f g : List Value → A) → ((row : List Value) → IsTrue (fits_row schema row) → f row ≡ g row) → (rows : List (List Value)) → IsTrue (fit_rows schema rows) → map f rows ≡ map g rows
map_same schema f g each [] h = refl
map_same schema f g each (row ∷ rows) h =
    ap₂ (λ x xs. x ∷ xs) (each row (left_true (fits_row schema row) (fit_rows schema rows) h)) (map_same schema f g each rows (right_true (fits_row schema row) (fit_rows schema rows) h))

pub fits_length : (schema : List Field) (row : List Value) → IsTrue (fits_row schema row) → length row ≡ length schema
fits_length [] [] h = refl
fits_length [] (v ∷ row) h = absurd (cc)
fits_length (f ∷ fs) [] h = absurd (cc)
fits_length (f ∷ fs) (v ∷ row) h = ap suc (fits_length fs row (right_true _ (fits_row fs row) h))

-- ---- lists by their places

get_first : {A : Type 0} (xs rest : List A) (k : ℕ) (x : A) → drop k xs ≡ x ∷ rest → slice_get xs k ≡ Some x
get_first [] rest zero x e = absurd (cc)
get_first [] rest (suc k) x e = absurd (cc)
get_first (y ∷ xs) rest zero x e = cc
get_first (y ∷ xs) rest (suc k) x e = get_first xs rest k x e

drop_next : {A : Type 0} (xs rest : List A) (k : ℕ) (x : A) → drop k xs ≡ x ∷ rest → drop (suc k) xs ≡ rest
drop_next [] rest zero x e = absurd (cc)
drop_next [] rest (suc k) x e = absurd (cc)
drop_next (y ∷ xs) rest zero x e = cc
drop_next (y ∷ xs) rest (suc k) x e = drop_next xs rest k x e

by_places : {A B : Type 0} (f : Option A → B) (xs rest : List A) (k : ℕ) → drop k xs ≡ rest → map (λ i. f (slice_get xs i)) (range_with_len k (length rest)) ≡ map (λ x. f (Some x)) rest
by_places f xs [] k e = refl
by_places f xs (x ∷ rest) k e =
    ap₂ (λ y ys. y ∷ ys) (ap f (get_first xs rest k x e))
    (by_places f xs rest (k + 1) (ap (λ n. drop n xs) (add-one k) ∙ drop_next xs rest k x e))

each_itself : {A : Type 0} (xs : List A) → map (λ x. x) xs ≡ xs
each_itself [] = refl
each_itself (x ∷ xs) = ap (λ ys. x ∷ ys) (each_itself xs)

pub row_by_places : (row : List Value) → map (value_at row) (range_with_len 0 (length row)) ≡ row
row_by_places row = by_places (λ o. unwrap_or o Missing) row row 0 refl ∙ each_itself row

pub kinds_by_places : (schema : List Field) → map (kind_at schema) (range_with_len 0 (length schema)) ≡ kinds_of schema
kinds_by_places schema = by_places kind_of schema schema 0 refl

-- the values of an expression for each place
pub range_valued : (row : List Value) (f : ℕ → Expr) (g : ℕ → Value) (k n : ℕ) → ((at : ℕ) → k ≤ at → at < k + n → val row (f at) ≡ g at) → map (val row) (map f (range_with_len k n)) ≡ map g (range_with_len k n)
range_valued row f g k zero each = refl
range_valued row f g k (suc n) each = ap₂ (λ x xs. x ∷ xs) (each k (omega arith) (omega arith)) (range_valued row f g (k + 1) n (λ at low up. each at (omega arith) (omega arith)))

-- ---- all columns as they are

pub columns_typed : (schema : List Field) → HaveTypes schema (all_columns schema) (kinds_of schema)
columns_typed schema =
    subst (λ ts. HaveTypes schema (all_columns schema) ts) (kinds_by_places schema)
    (range_types schema (λ at. Col at) (kind_at schema) 0 (length schema) (λ at low up. typed_column schema at (omega arith)))

pub columns_valued : (schema : List Field) (row : List Value) → IsTrue (fits_row schema row) → map (val row) (all_columns schema) ≡ row
columns_valued schema row fits =
    range_valued row (λ at. Col at) (value_at row) 0 (length schema) (λ at low up. value_column row at)
    ∙ ap (λ n. map (value_at row) (range_with_len 0 n)) (sym (fits_length schema row fits))
    ∙ row_by_places row

pub map-put : {A B : Type 0} (f : A → B) (place : Option ℕ) (x : A) (xs : List A) → map f (put place x xs) ≡ put place (f x) (map f xs)
map-put f None x xs = map-append f xs (x ∷ [])
map-put f (Some at) x xs = map-set f xs at x

-- ---- chosen columns

choice_typed : (schema : List Field) (chosen : List (ℕ × List ℕ)) → IsTrue (are_chosen schema chosen) → HaveTypes schema (map (λ c. Col c.0) chosen) (kinds_of (chosen_columns schema chosen))
choice_typed schema [] h = tt
choice_typed schema (c ∷ chosen) h = (
  typed_column schema c.0 (ltb-true c.0 (length schema) (left_true (is_place schema c.0) (are_chosen schema chosen) h)),
  choice_typed schema chosen (right_true (is_place schema c.0) (are_chosen schema chosen) h),
)

pub choice_stands : (schema : List Field) (chosen : List (ℕ × List ℕ)) → IsTrue (are_chosen schema chosen) → IsStep schema (choice_step schema chosen)
choice_stands schema chosen h = project_stands schema (chosen_columns schema chosen) (map (λ c. Col c.0) chosen) (choice_typed schema chosen h)

choice_valued : (chosen : List (ℕ × List ℕ)) (row : List Value) → map (val row) (map (λ c. Col c.0) chosen) ≡ picked chosen row
choice_valued [] row = refl
choice_valued (c ∷ chosen) row = ap₂ (λ x xs. x ∷ xs) (value_column row c.0) (choice_valued chosen row)

pub choice_rows : (chosen : List (ℕ × List ℕ)) (rows : List (List Value)) → projected (map (λ c. Col c.0) chosen) rows ≡ map (picked chosen) rows
choice_rows chosen [] = refl
choice_rows chosen (row ∷ rows) = ap₂ (λ x xs. x ∷ xs) (choice_valued chosen row) (choice_rows chosen rows)
