-- What the fields of a typed table say: a column's name and type, and the values of its rows.
use Rattle.std.specs.Prelude.{ℕ, ℤ, pos, neg_ℤ, ◌==◌, ◌&&◌, ◌||◌, not, nat_eq, nat_lt, Bool, true, false, if◌then◌else◌, List, length, drop, Option, Some, None, option_map, option_and_then, codes}
use Rattle.std.specs.List.{starts_with, before_last, after_last}
use Rattle.std.specs.Str.{bytes_eq}
use Rattle.scalar_value.specs.declared.value.Value.{Value}
use Rattle.scalar_value.specs.declared.value.Value.TheVariants.{Missing, Int, Dec, Chr, Day, Lgl}
use Rattle.scalar_value.specs.declared.value.ColType.{ColType}
use Rattle.scalar_value.specs.declared.value.ColType.TheVariants as kind
use Rattle.scalar_value.specs.Decimals.{is_digits, value_of, dec_of_text}
use Rattle.scalar_value.specs.Numbers.{is_int}
use Rattle.scalar_fns.specs.Days.{day_of_text}
use Rattle.row_table.specs.declared.field.Field.{Field}

-- ---- a field of the header: a name that isn't empty, a colon, and a type

abbrev pub is_colon : ℕ → Bool
is_colon byte = byte == 58

-- what stands before the last colon
abbrev pub name_of_text : List ℕ → List ℕ
name_of_text text = before_last is_colon text

unfoldable pub type_of_text : List ℕ → Option ColType
type_of_text text =
    if bytes_eq text (codes "int") then Some kind.Int
    else if bytes_eq text (codes "dec") then Some kind.Dec
    else if bytes_eq text (codes "chr") then Some kind.Chr
    else if bytes_eq text (codes "date") then Some kind.Date
    else if bytes_eq text (codes "lgl") then Some kind.Lgl
    else None

unfoldable pub column_of_text : List ℕ → Option Field
column_of_text text =
    if length (name_of_text text) == 0 then None
    else option_map (λ k. record { name = name_of_text text; kind = k }) (type_of_text (after_last is_colon text))

-- ---- a field of a row: a value of its column's type, or a missing one

-- the number that digits write
unfoldable pub digits_of_text : List ℕ → Option ℕ
digits_of_text text = if is_digits text then Some (value_of text) else None

-- the whole number that digits write, or `-` and digits
abbrev pub whole_of_text : List ℕ → Option ℤ
whole_of_text text =
    if starts_with nat_eq text (codes "-") then option_map (λ n. neg_ℤ (pos n)) (digits_of_text (drop 1 text)) else option_map (λ n. pos n) (digits_of_text text)

-- a number below its limit
abbrev pub below : ℕ → ℕ → Option ℕ
below limit n = if nat_lt n limit then Some n else None

-- within 64 bits
abbrev pub within_int : ℤ → Option ℤ
within_int z = if is_int z then Some z else None

unfoldable pub int_of_text : List ℕ → Option ℤ
int_of_text text = option_and_then within_int (whole_of_text text)

unfoldable pub truth_of_text : List ℕ → Option Bool
truth_of_text text =
    if bytes_eq text (codes "TRUE") || bytes_eq text (codes "true") then Some true
    else if bytes_eq text (codes "FALSE") || bytes_eq text (codes "false") then Some false
    else None

-- the value that a text writes in a column of this type; each text is one of a text column
unfoldable pub value_of_text : ColType → List ℕ → Option Value
value_of_text kind.Int text = option_map (λ z. Int z) (int_of_text text)
value_of_text kind.Dec text = option_map (λ m. Dec m) (dec_of_text text)
value_of_text kind.Chr text = Some (Chr text)
value_of_text kind.Date text = option_map (λ d. Day d) (day_of_text text)
value_of_text kind.Lgl text = option_map (λ b. Lgl b) (truth_of_text text)

abbrev pub is_chr : ColType → Bool
is_chr kind.Int = false
is_chr kind.Dec = false
is_chr kind.Chr = true
is_chr kind.Date = false
is_chr kind.Lgl = false

-- `NA` is missing in each column, and the empty field in each but a text column
unfoldable pub is_missing_text : ColType → List ℕ → Bool
is_missing_text k text = bytes_eq text (codes "NA") || (length text == 0 && not (is_chr k))

unfoldable pub value_of_field : ColType → List ℕ → Option Value
value_of_field k text = if is_missing_text k text then Some Missing else value_of_text k text
