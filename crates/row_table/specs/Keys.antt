-- Keys of rows, the rows of a key, and the pairs of rows whose keys match.
use Rattle.std.specs.Prelude.{ℕ, Bool, true, false, ◌&&◌, ◌||◌, not, List, [], ◌∷◌, map, slice_index_or}
use Rattle.std.specs.List.{filter, flat_map, list_any}
use Rattle.scalar_value.specs.declared.value.Value.{Value}
use Rattle.scalar_value.specs.declared.value.Value.TheVariants.{Missing, Int, Dec, Chr, Day, Lgl}
use Rattle.row_table.specs.SameTables.{row_same}

-- the row's values in these columns
abbrev pub key_of : List ℕ → List Value → List Value
key_of columns row = map (λ column. slice_index_or row column Missing) columns

-- the different keys, each where it first stands
abbrev pub different : List (List Value) → List (List Value)
different [] = []
different (key ∷ rest) = key ∷ filter (λ other. not (row_same key other)) (different rest)

-- the different keys of the rows in order of first row; without columns there is one, also where there are no rows
abbrev pub keys : List ℕ → List (List Value) → List (List Value)
keys [] rows = [] ∷ []
keys (column ∷ columns) rows = different (map (key_of (column ∷ columns)) rows)

-- the rows that have this key in these columns
abbrev pub rows_with : List ℕ → List Value → List (List Value) → List (List Value)
rows_with columns key rows = filter (λ row. row_same key (key_of columns row)) rows

abbrev pub is_missing : Value → Bool
is_missing Missing = true
is_missing (Int z) = false
is_missing (Dec m) = false
is_missing (Chr t) = false
is_missing (Day d) = false
is_missing (Lgl b) = false

-- whether two keys match: they are equal, and have no missing value unless missing ones match
abbrev pub keys_match : Bool → List Value → List Value → Bool
keys_match na_match x y = row_same x y && (na_match || not (list_any is_missing x))

-- what a join matches by: the columns of the left and of the right key, and whether missing values match
pub record Matching : Type 0 where
  pub left : List ℕ
  pub right : List ℕ
  pub na_match : Bool

-- whether a left row and a right row have matching keys
abbrev pub rows_match : Matching → List Value → List Value → Bool
rows_match m x y = keys_match m.na_match (key_of m.left x) (key_of m.right y)

-- for each left row in order, for each right row in order, the pair where the keys match
abbrev pub pairs : Matching → List (List Value) → List (List Value) → List (List Value × List Value)
pairs m xs ys = flat_map (λ x. map (λ y. (x, y)) (filter (rows_match m x) ys)) xs
