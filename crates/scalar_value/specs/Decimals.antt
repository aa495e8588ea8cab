-- Decimals: whole numbers of millionths, of at most 10 ^ 18 - 1 in size.
use Rattle.std.specs.Prelude.{ℕ, ◌+◌, ◌-◌, ◌*◌, ◌^◌, ◌==◌, nat_lt, nat_le, ℤ, pos, neg_ℤ, ◌≤ℤ◌, Bool, ◌&&◌, if◌then◌else◌, List, [], ◌∷◌, length, Option, Some, None, option_map, option_and_then}
use Rattle.std.specs.List.{before_first, after_first, list_all}
use Rattle.std.specs.Char.{is_ascii_digit}
use Rattle.std.specs.Str.Parse.{digits_value}

-- one, in millionths
abbrev pub million : ℤ
million = pos 1000000

-- the greatest number of millionths
abbrev pub dec_limit : ℤ
dec_limit = pos (10 ^ 18 - 1)

abbrev pub IsDec : ℤ → Type 0
IsDec millionths = (neg_ℤ dec_limit ≤ℤ millionths) × (millionths ≤ℤ dec_limit)

-- ---- texts of decimals

-- one digit or more
abbrev pub is_digits : List ℕ → Bool
is_digits text = nat_lt 0 (length text) && list_all is_ascii_digit text

-- the number that digits stand for
abbrev pub value_of : List ℕ → ℕ
value_of digits = digits_value 10 digits

abbrev pub is_point : ℕ → Bool
is_point byte = byte == 46

-- the millionths that the digits behind a point stand for
abbrev pub part_value : List ℕ → ℕ
part_value digits = value_of digits * 10 ^ (6 - length digits)

-- the millionths of digits, a point and one to six digits
abbrev pub parted_size : List ℕ → List ℕ → Option ℕ
parted_size whole part =
    if is_digits whole && (is_digits part && nat_le (length part) 6) then Some (value_of whole * 1000000 + part_value part) else None

-- the millionths of a text without sign: digits, or digits, a point and one to six digits
abbrev pub text_size : List ℕ → Option ℕ
text_size text = if is_digits text then Some (value_of text * 1000000) else parted_size (before_first is_point text) (after_first is_point text)

-- the size of a decimal, and none beyond the greatest
abbrev pub within_limit : ℕ → Option ℕ
within_limit size = if nat_lt size (10 ^ 18) then Some size else None

unfoldable pub dec_size : List ℕ → Option ℕ
dec_size text = option_and_then within_limit (text_size text)

-- the millionths that a text stands for: `-` or not, and then the text of a size
abbrev pub dec_of_text : List ℕ → Option ℤ
dec_of_text [] = None
dec_of_text (byte ∷ rest) = if byte == 45 then option_map (λ size. neg_ℤ (pos size)) (dec_size rest) else option_map pos (dec_size (byte ∷ rest))
