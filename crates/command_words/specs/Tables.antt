-- The TABLE words of a command line, and the tables that they name.
use Rattle.std.specs.Prelude.{ℕ, Bool, true, ◌&&◌, not, ◌==◌, nat_lt, if◌then◌else◌, List, [], ◌∷◌, length, Option, Some, None}
use Rattle.std.specs.List.{position_or_len, before_first, after_first, list_any}
use Rattle.std.specs.Str.{bytes_eq}
use Rattle.command_words.specs.Steps.{◌>>=◌, each_some}
use Rattle.command_words.specs.Names.{is_free_name}

-- the texts before and behind the first `=`, where there is one
abbrev pub at_equals : List ℕ → Option (List ℕ × List ℕ)
at_equals word = if nat_lt (position_or_len (λ b. b == 61) word) (length word) then Some (before_first (λ b. b == 61) word, after_first (λ b. b == 61) word) else None

-- A TABLE word is NAME=PATH: before its first `=` stands a plain name that is no reserved word, and
-- something stands behind.
unfoldable pub table_word : List ℕ → Option (List ℕ × List ℕ)
table_word word = at_equals word >>= (λ p. if is_free_name p.0 && nat_lt 0 (length p.1) then Some p else None)

-- a table has this name
abbrev pub is_named : List ℕ → List (List ℕ × List ℕ) → Bool
is_named name tables = list_any (λ t. bytes_eq t.0 name) tables

-- no two tables have the same name
abbrev pub has_own_names : List (List ℕ × List ℕ) → Bool
has_own_names [] = true
has_own_names (t ∷ ts) = not (is_named t.0 ts) && has_own_names ts

-- the tables of the TABLE words, where each is one and no two have the same name
unfoldable pub tables_of : List (List ℕ) → Option (List (List ℕ × List ℕ))
tables_of words = each_some table_word words >>= (λ tables. if has_own_names tables then Some tables else None)
