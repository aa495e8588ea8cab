-- Names of tables, as a script spells them without backquotes.
use Rattle.std.specs.Prelude.{ℕ, Bool, true, false, ◌&&◌, ◌||◌, not, ◌==◌, List, [], ◌∷◌, codes}
use Rattle.std.specs.Char.{is_ascii_alphabetic, is_ascii_alphanumeric, is_ascii_digit}
use Rattle.std.specs.Str.{bytes_eq}

-- a letter, a digit, `.` or `_`
abbrev pub is_name_byte : ℕ → Bool
is_name_byte b = is_ascii_alphanumeric b || (b == 46 || b == 95)

abbrev pub all_bytes : (ℕ → Bool) → List ℕ → Bool
all_bytes p [] = true
all_bytes p (b ∷ bs) = p b && all_bytes p bs

abbrev pub starts_with_digit : List ℕ → Bool
starts_with_digit [] = false
starts_with_digit (b ∷ bs) = is_ascii_digit b

-- An ASCII letter, or a `.` that no digit follows, then letters, digits, `.` and `_`.
unfoldable pub is_name : List ℕ → Bool
is_name [] = false
is_name (b ∷ bs) = (is_ascii_alphabetic b || (b == 46 && not (starts_with_digit bs))) && all_bytes is_name_byte bs

unfoldable pub is_reserved : List ℕ → Bool
is_reserved bs =
    bytes_eq bs (codes "TRUE") || (bytes_eq bs (codes "FALSE") || (bytes_eq bs (codes "NA")
    || (bytes_eq bs (codes "NA_integer_") || (bytes_eq bs (codes "NA_real_") || bytes_eq bs (codes "NA_character_")))))

-- a name that is no reserved word
abbrev pub is_free_name : List ℕ → Bool
is_free_name bs = is_name bs && not (is_reserved bs)
