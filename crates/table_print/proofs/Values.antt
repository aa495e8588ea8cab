-- The rows of a table have values that can be written, one for each column.
use Rattle.std.proofs.Common.{◌≡◌, ℕ, zero, suc, ◌<◌, Bool, true, false, List, [], ◌∷◌, length, get_or, refl, sym, ◌∙◌, subst, arith}
use Rattle.std.specs.Prelude.{◌&&◌}
use Rattle.std.specs.List.{list_all}
use Rattle.scalar_value.specs.declared.value.Value.{Value}
use Rattle.scalar_value.specs.declared.value.Value.TheVariants.{Missing, Int, Dec, Chr, Day, Lgl}
use Rattle.scalar_value.specs.declared.value.ColType.{ColType}
use Rattle.scalar_value.specs.declared.value.ColType.TheVariants as kind
use Rattle.scalar_value.specs.Order.{is_of_type}
use Rattle.scalar_fns.specs.Written.{is_value}
use Rattle.row_table.specs.declared.field.Field.{Field}
use Rattle.row_table.specs.Tables.{fits_row, fit_rows}

pub left-true : (a b : Bool) → (a && b) ≡ true → a ≡ true
left-true true b h = refl
left-true false b h = h

pub right-true : (a b : Bool) → (a && b) ≡ true → b ≡ true
right-true true b h = h
right-true false b h = absurd (cc)

typed-value : (k : ColType) (v : Value) → is_of_type k v ≡ true → is_value v ≡ true
typed-value k Missing e = refl
typed-value k (Int z) e = refl
typed-value k (Dec m) e = refl
typed-value k (Chr t) e = refl
typed-value k (Lgl b) e = refl
typed-value kind.Int (Day d) e = absurd (cc)
typed-value kind.Dec (Day d) e = absurd (cc)
typed-value kind.Chr (Day d) e = absurd (cc)
typed-value kind.Date (Day d) e = e
typed-value kind.Lgl (Day d) e = absurd (cc)

pub row-values : (fields : List Field) (row : List Value) → fits_row fields row ≡ true → list_all is_value row ≡ true
row-values [] [] e = refl
row-values [] (v ∷ vs) e = absurd (cc)
row-values (f ∷ fs) [] e = absurd (cc)
row-values (f ∷ fs) (v ∷ vs) e =
    let a = typed-value f.kind v (left-true (is_of_type f.kind v) (fits_row fs vs) e) in
    let b = row-values fs vs (right-true (is_of_type f.kind v) (fits_row fs vs) e) in
    rw (a, b) refl

pub row-length : (fields : List Field) (row : List Value) → fits_row fields row ≡ true → length row ≡ length fields
row-length [] [] e = refl
row-length [] (v ∷ vs) e = absurd (cc)
row-length (f ∷ fs) [] e = absurd (cc)
row-length (f ∷ fs) (v ∷ vs) e =
    let a = row-length fs vs (right-true (is_of_type f.kind v) (fits_row fs vs) e) in omega arith

pub row-at : (fields : List Field) (rows : List (List Value)) (i : ℕ) (d : List Value) → fit_rows fields rows ≡ true → i < length rows → fits_row fields (get_or rows i d) ≡ true
row-at fields [] i d e l = absurd (omega arith)
row-at fields (row ∷ rows) zero d e l = left-true (fits_row fields row) (fit_rows fields rows) e
row-at fields (row ∷ rows) (suc i) d e l = row-at fields rows i d (right-true (fits_row fields row) (fit_rows fields rows) e) (omega arith)

-- the row at a place of a table's rows
pub item-values : (fields : List Field) (rows : List (List Value)) (i : ℕ) (item row : List Value) → fit_rows fields rows ≡ true → i < length rows → item ≡ get_or rows i item → row ≡ item → list_all is_value row ≡ true
item-values fields rows i item row e l at is =
    subst (λ (r : List Value). list_all is_value r ≡ true) (sym (is ∙ at)) (row-values fields (get_or rows i item) (row-at fields rows i item e l))

pub item-length : (fields : List Field) (rows : List (List Value)) (i : ℕ) (item row : List Value) → fit_rows fields rows ≡ true → i < length rows → item ≡ get_or rows i item → row ≡ item → length row ≡ length fields
item-length fields rows i item row e l at is =
    subst (λ (r : List Value). length r ≡ length fields) (sym (is ∙ at)) (row-length fields (get_or rows i item) (row-at fields rows i item e l))
