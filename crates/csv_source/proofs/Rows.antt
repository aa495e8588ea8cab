-- The rows of a table, and that they fit its columns.
use Rattle.std.proofs.Common.{◌≡◌, ℕ, zero, suc, ◌+◌, ◌<◌, Bool, true, false, List, [], ◌∷◌, length, get_or, drop, refl, sym, ap, ◌∙◌, Option, Some, None, Result, Ok, Err, if◌then◌else◌, arith, ◌==◌, eqb-true, eq-eqb}
use Rattle.std.specs.Option.{option_map, ok_or}
use Rattle.std.specs.List.{zip}
use Rattle.csv.specs.Records.{field_at}
use Rattle.scalar_value.specs.declared.value.Value.{Value}
use Rattle.scalar_value.specs.declared.value.Value.TheVariants.{Missing, Int, Dec, Chr, Day, Lgl}
use Rattle.scalar_value.specs.declared.value.ColType.{ColType}
use Rattle.scalar_value.specs.declared.value.ColType.TheVariants as kind
use Rattle.scalar_value.specs.Decimals.{dec_of_text}
use Rattle.scalar_value.specs.Order.{is_of_type}
use Rattle.scalar_fns.specs.Days.{day_of_text}
use Rattle.row_table.specs.declared.field.Field.{Field}
use Rattle.row_table.specs.Tables.{fits_row}
use Rattle.csv_source.specs.declared.fault.TableKind.TheVariants as fault
use Rattle.csv_source.specs.Fields.{int_of_text, is_missing_text, truth_of_text, value_of_field, value_of_text}
use Rattle.csv_source.specs.Steps.{◌>>=◌, each_ok}
use Rattle.csv_source.specs.Typed.{fault_at, row_at, value_at}
use Rattle.csv_source.proofs.Days.{text_day}

-- ---- a value is of its column's type

missing_typed : (k : ColType) → is_of_type k Missing ≡ true
missing_typed kind.Int = refl
missing_typed kind.Dec = refl
missing_typed kind.Chr = refl
missing_typed kind.Date = refl
missing_typed kind.Lgl = refl

-- what a given option becomes
made : {A : Type 0} (f : A → Value) (o : Option A) (v : Value) → option_map f o ≡ Some v → (x : A) × (o ≡ Some x) × (f x ≡ v)
made f None v h = cc h
made f (Some x) v h = (x, refl, cc)

text_typed : (k : ColType) (text : List ℕ) (v : Value) → value_of_text k text ≡ Some v → is_of_type k v ≡ true
unfolding value_of_text
text_typed kind.Int text v h = let m = made (λ z. Int z) (int_of_text text) v h in rw (← m.2) refl
text_typed kind.Dec text v h = let m = made (λ z. Dec z) (dec_of_text text) v h in rw (← m.2) refl
text_typed kind.Chr text v h = let same : Chr text ≡ v = cc in rw (← same) refl
text_typed kind.Date text v h = let m = made (λ z. Day z) (day_of_text text) v h in rw (← m.2) (text_day text m.0 m.1)
text_typed kind.Lgl text v h = let m = made (λ z. Lgl z) (truth_of_text text) v h in rw (← m.2) refl

typed_by : (b : Bool) (k : ColType) (text : List ℕ) (v : Value) → (if b then Some Missing else value_of_text k text) ≡ Some v → is_of_type k v ≡ true
typed_by true k text v h = let same : Missing ≡ v = cc in rw (← same) (missing_typed k)
typed_by false k text v h = text_typed k text v h

field_typed : (k : ColType) (text : List ℕ) (v : Value) → value_of_field k text ≡ Some v → is_of_type k v ≡ true
unfolding value_of_field
field_typed k text v h = typed_by (is_missing_text k text) k text v h

-- ---- a row fits its columns

bound : {A B F : Type 0} (r : Result A F) (g : A → Result B F) (z : B) → (r >>= g) ≡ Ok z → (y : A) × (r ≡ Ok y) × (g y ≡ Ok z)
bound (Ok y) g z h = (y, refl, h)
bound (Err e) g z h = cc h

ok_given : {A F : Type 0} (o : Option A) (e : F) (x : A) → ok_or o e ≡ Ok x → o ≡ Some x
ok_given None e x h = cc h
ok_given (Some y) e x h = let same : y ≡ x = cc in ap (λ z. Some z) same

cell_typed : (row place : ℕ) (column : Field) (text : List ℕ) (v : Value) → value_at row place (column, text) ≡ Ok v → is_of_type column.kind v ≡ true
unfolding value_at
cell_typed row place column text v h = field_typed column.kind text v (ok_given (value_of_field column.kind text) (fault_at fault.BadField row place) v h)

cells_fit : (row place : ℕ) (columns : List Field) (texts : List (List ℕ)) (vs : List Value) → length texts ≡ length columns → each_ok (value_at row) place (zip columns texts) ≡ Ok vs → fits_row columns vs ≡ true
cells_fit row place [] [] vs e h = let none : [] ≡ vs = cc in rw (← none) refl
cells_fit row place [] (t ∷ ts) vs e h = cc e
cells_fit row place (c ∷ cs) [] vs e h = cc e
cells_fit row place (c ∷ cs) (t ∷ ts) vs e h =
    let first = bound (value_at row place (c, t)) (λ v. each_ok (value_at row) (place + 1) (zip cs ts) >>= (λ ws. Ok (v ∷ ws))) vs h in
    let rest = bound (each_ok (value_at row) (place + 1) (zip cs ts)) (λ ws. Ok (first.0 ∷ ws)) vs first.2 in
    let whole : first.0 ∷ rest.0 ≡ vs = cc rest.2 in
    let shorter : length ts ≡ length cs = cc e in
    rw (← whole, cell_typed row place c t first.0 first.1) (cells_fit row (place + 1) cs ts rest.0 shorter rest.1)

row_by : (b : Bool) (row : ℕ) (columns : List Field) (texts : List (List ℕ)) (vs : List Value) → (length texts == length columns) ≡ b
    → (if b then each_ok (value_at row) 1 (zip columns texts) else Err (fault_at fault.Ragged row 0)) ≡ Ok vs → fits_row columns vs ≡ true
row_by true row columns texts vs e h = cells_fit row 1 columns texts vs (eqb-true (length texts) (length columns) e) h
row_by false row columns texts vs e h = cc h

pub row_fits : (row : ℕ) (columns : List Field) (texts : List (List ℕ)) (vs : List Value) → row_at columns row texts ≡ Ok vs → fits_row columns vs ≡ true
unfolding row_at
row_fits row columns texts vs h = row_by (length texts == length columns) row columns texts vs refl h

-- ---- the cells of a row, one after another

pub drop-cell : (columns : List Field) (texts : List (List ℕ)) (i : ℕ) (d : Field) (text : List ℕ) → i < length columns → field_at texts i ≡ Some text
    → drop i (zip columns texts) ≡ (get_or columns i d, text) ∷ drop (i + 1) (zip columns texts)
unfolding field_at
drop-cell [] texts i d text lt h = absurd (omega arith)
drop-cell (c ∷ cs) [] i d text lt h = cc h
drop-cell (c ∷ cs) (t ∷ ts) zero d text lt h = let e : t ≡ text = cc in ap (λ x. (c, x) ∷ zip cs ts) e
drop-cell (c ∷ cs) (t ∷ ts) (suc i) d text lt h = let e : suc i + 1 ≡ suc (i + 1) = omega arith in rw e (drop-cell cs ts i d text (omega arith) h)

pub zip-drop_all : (columns : List Field) (texts : List (List ℕ)) → drop (length columns) (zip columns texts) ≡ []
zip-drop_all [] texts = refl
zip-drop_all (c ∷ cs) [] = refl
zip-drop_all (c ∷ cs) (t ∷ ts) = zip-drop_all cs ts

pub even_row : (columns : List Field) (row : ℕ) (texts : List (List ℕ)) → length texts ≡ length columns → row_at columns row texts ≡ each_ok (value_at row) 1 (zip columns texts)
unfolding row_at
even_row columns row texts e = ap (λ b. if b then each_ok (value_at row) 1 (zip columns texts) else Err (fault_at fault.Ragged row 0)) (eq-eqb (length texts) (length columns) e)

pub ragged_row : (columns : List Field) (row : ℕ) (texts : List (List ℕ)) → (length texts == length columns) ≡ false → row_at columns row texts ≡ Err (fault_at fault.Ragged row 0)
unfolding row_at
ragged_row columns row texts e = ap (λ b. if b then each_ok (value_at row) 1 (zip columns texts) else Err (fault_at fault.Ragged row 0)) e

pub cell_none : (row place : ℕ) (column : Field) (text : List ℕ) → value_of_field column.kind text ≡ None → value_at row place (column, text) ≡ Err (fault_at fault.BadField row place)
unfolding value_at
cell_none row place column text h = rw h refl

pub cell_there : (row place : ℕ) (column : Field) (text : List ℕ) (v : Value) → value_of_field column.kind text ≡ Some v → value_at row place (column, text) ≡ Ok v
unfolding value_at
cell_there row place column text v h = rw h refl

-- the same where the column is known as what stands at the place
pub drop-cell_at : (columns : List Field) (texts : List (List ℕ)) (i : ℕ) (column : Field) (text : List ℕ) → i < length columns → column ≡ get_or columns i column → field_at texts i ≡ Some text
    → drop i (zip columns texts) ≡ (column, text) ∷ drop (i + 1) (zip columns texts)
drop-cell_at columns texts i column text lt is h = drop-cell columns texts i column text lt h ∙ ap (λ x. (x, text) ∷ drop (i + 1) (zip columns texts)) (sym is)
