-- Columns by their places and names.
use Rattle.std.specs.Prelude.{ℕ, Option, Some, None, List, [], ◌∷◌, ◌++◌, map, position, slice_get, slice_set}
use Rattle.std.specs.Str.{bytes_eq}
use Rattle.scalar_value.specs.declared.value.ColType.{ColType}
use Rattle.scalar_value.specs.declared.value.ColType.TheVariants.{Lgl}
use Rattle.row_table.specs.declared.field.Field.{Field}

-- the name and the type of the column at a place; of no column the empty name, and lgl
abbrev pub name_of : Option Field → List ℕ
name_of None = []
name_of (Some f) = f.name

abbrev pub kind_of : Option Field → ColType
kind_of None = Lgl
kind_of (Some f) = f.kind

abbrev pub name_at : List Field → ℕ → List ℕ
name_at schema at = name_of (slice_get schema at)

abbrev pub kind_at : List Field → ℕ → ColType
kind_at schema at = kind_of (slice_get schema at)

abbrev pub names_at : List Field → List ℕ → List (List ℕ)
names_at schema columns = map (name_at schema) columns

-- the place of the column of this name
abbrev pub place_of : List ℕ → List Field → Option ℕ
place_of name schema = position (λ f. bytes_eq f.name name) schema

-- an element in the place of an old one, or last where there is none
abbrev pub put : {X : Type 0} → Option ℕ → X → List X → List X
put None x xs = xs ++ x ∷ []
put (Some at) x xs = slice_set xs at x

-- the columns with one of this name and type: in the place of the old one of that name, else last
abbrev pub with_column : List ℕ → ColType → List Field → List Field
with_column name kind schema = put (place_of name schema) (record { name = name; kind = kind }) schema

-- the columns at these places, in this order and under these names
abbrev pub chosen_columns : List Field → List (ℕ × List ℕ) → List Field
chosen_columns schema chosen = map (λ c. record { name = c.1; kind = kind_at schema c.0 }) chosen

-- the old and the new names of these columns
abbrev pub renamings : List Field → List (ℕ × List ℕ) → List (List ℕ × List ℕ)
renamings schema chosen = map (λ c. (name_at schema c.0, c.1)) chosen
