-- Which columns are chosen: a column is its place in the table.
use Rattle.std.specs.Prelude.{ℕ, ◌+◌, min, max, Bool, not, ◌&&◌, ◌||◌, nat_eq, nat_lt, if◌then◌else◌, List, [], ◌∷◌, ◌++◌, map, filter, length, fold}
use Rattle.std.specs.List.{list_any, range_with_len, starts_with, ends_with}
use Rattle.std.specs.Char.{to_ascii_lowercase}
use Rattle.row_table.specs.declared.field.Field.{Field}
use Rattle.selections.specs.declared.names.NameTest.{NameTest}
use Rattle.selections.specs.declared.names.NameTest.TheVariants.{StartsWith, EndsWith, Contains}

-- the places of all columns
abbrev pub all_places : List Field → List ℕ
all_places schema = range_with_len 0 (length schema)

abbrev pub is_among : List ℕ → ℕ → Bool
is_among places at = list_any (nat_eq at) places

-- these columns, and behind them those of the others that are not there yet
abbrev pub with_column : List ℕ → ℕ → List ℕ
with_column had at = if is_among had at then had else had ++ at ∷ []

abbrev pub with_columns : List ℕ → List ℕ → List ℕ
with_columns had more = fold with_column had more

-- these columns without the others
abbrev pub without : List ℕ → List ℕ → List ℕ
without had away = filter (λ at. not (is_among away at)) had

-- these columns without the others where those are taken away, and with them where they are not
abbrev pub with_or_without : List ℕ → Bool → List ℕ → List ℕ
with_or_without had away columns = if away then without had columns else with_columns had columns

-- two columns and those between them, in table order
abbrev pub between : ℕ → ℕ → List Field → List ℕ
between a b schema = filter (λ at. not (nat_lt at (min a b)) && not (nat_lt (max a b) at)) (all_places schema)

-- a text without regard to the case of ASCII letters
abbrev pub lowered : List ℕ → List ℕ
lowered text = map to_ascii_lowercase text

-- whether a text stands in another
abbrev pub contains_text : List ℕ → List ℕ → Bool
contains_text part [] = starts_with nat_eq [] part
contains_text part (b ∷ bs) = starts_with nat_eq (b ∷ bs) part || contains_text part bs

-- whether a name passes with a text
abbrev pub passes : NameTest → List ℕ → List ℕ → Bool
passes StartsWith text name = starts_with nat_eq name text
passes EndsWith text name = ends_with nat_eq name text
passes Contains text name = contains_text text name

-- the columns whose name passes, in table order, the first at this place
abbrev pub places_from : (List ℕ → Bool) → ℕ → List Field → List ℕ
places_from test at [] = []
places_from test at (f ∷ fs) = if test f.name then at ∷ places_from test (at + 1) fs else places_from test (at + 1) fs

abbrev pub places_that : (List ℕ → Bool) → List Field → List ℕ
places_that test schema = places_from test 0 schema
