-- Batches of rows, and what makes one: rows that fit the types of the columns.
use Rattle.std.specs.Prelude.{ℕ, Bool, true, false, ◌&&◌, Option, List, [], ◌∷◌, map, slice_index_or, IsTrue}
use Rattle.scalar_value.specs.declared.value.ColType.{ColType}
use Rattle.scalar_value.specs.declared.value.Value.{Value}
use Rattle.scalar_value.specs.Order.{is_of_type}
use Rattle.row_table.specs.declared.field.Field.{Field}

-- the types of the columns
abbrev pub kinds_of : List Field → List ColType
kinds_of fields = map (λ f. f.kind) fields

-- whether the row has one value of the column's type, or a missing one, for each column
abbrev pub fits_kinds : List ColType → List Value → Bool
fits_kinds [] [] = true
fits_kinds [] (v ∷ vs) = false
fits_kinds (k ∷ ks) [] = false
fits_kinds (k ∷ ks) (v ∷ vs) = is_of_type k v && fits_kinds ks vs

abbrev pub fit_kinds : List ColType → List (List Value) → Bool
fit_kinds kinds [] = true
fit_kinds kinds (row ∷ rows) = fits_kinds kinds row && fit_kinds kinds rows

-- a batch as contracts see it: its index in an ordered stream, or none, the types of its columns, and its rows
pub record BatchValue : Type 0 where
  pub index : Option ℕ
  pub kinds : List ColType
  pub rows : List (List Value)

abbrev pub IsBatch : BatchValue → Type 0
IsBatch b = IsTrue (fit_kinds b.kinds b.rows)

-- the rows at these places, in the order of the places
abbrev pub rows_at : List (List Value) → List ℕ → List (List Value)
rows_at rows places = map (λ place. slice_index_or rows place []) places
