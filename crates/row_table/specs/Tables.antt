-- Tables, and what makes one: distinct names, rows that fit the columns, and groups that are columns.
use Rattle.std.specs.Prelude.{ℕ, Bool, true, false, ◌&&◌, ◌||◌, not, List, [], ◌∷◌, IsTrue}
use Rattle.std.specs.Str.{bytes_eq}
use Rattle.scalar_value.specs.declared.value.Value.{Value}
use Rattle.scalar_value.specs.Order.{is_of_type}
use Rattle.row_table.specs.declared.field.Field.{Field}
use Rattle.row_table.specs.declared.table.Mark.{Mark}

-- whether the columns have one of this name
abbrev pub has_name : List ℕ → List Field → Bool
has_name name [] = false
has_name name (f ∷ fs) = bytes_eq f.name name || has_name name fs

-- whether no two columns have one name
abbrev pub names_differ : List Field → Bool
names_differ [] = true
names_differ (f ∷ fs) = not (has_name f.name fs) && names_differ fs

-- whether the row has one value of the column's type, or a missing one, for each column
abbrev pub fits_row : List Field → List Value → Bool
fits_row [] [] = true
fits_row [] (v ∷ vs) = false
fits_row (f ∷ fs) [] = false
fits_row (f ∷ fs) (v ∷ vs) = is_of_type f.kind v && fits_row fs vs

abbrev pub fit_rows : List Field → List (List Value) → Bool
fit_rows fields [] = true
fit_rows fields (row ∷ rows) = fits_row fields row && fit_rows fields rows

abbrev pub among_texts : List ℕ → List (List ℕ) → Bool
among_texts name [] = false
among_texts name (t ∷ ts) = bytes_eq t name || among_texts name ts

-- whether the groups are distinct names of columns
abbrev pub are_groups : List Field → List (List ℕ) → Bool
are_groups fields [] = true
are_groups fields (g ∷ gs) = has_name g fields && (not (among_texts g gs) && are_groups fields gs)

-- a table as contracts see it
pub record TableValue : Type 0 where
  pub schema : List Field
  pub groups : List (List ℕ)
  pub mark : Mark
  pub rows : List (List Value)

pub record IsTable (t : TableValue) : Type 0 where
  pub named : IsTrue (names_differ t.schema)
  pub filled : IsTrue (fit_rows t.schema t.rows)
  pub grouped : IsTrue (are_groups t.schema t.groups)
