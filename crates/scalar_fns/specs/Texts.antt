-- The code points of a text in UTF-8, of which each byte but those from 128 to 191 begins one.
use Rattle.std.specs.Prelude.{ℕ, zero, suc, ◌+◌, ◌-◌, nat_lt, Bool, ◌||◌, if◌then◌else◌, List, [], ◌∷◌, length, drop, count_by, ℤ, pos, negsuc}

abbrev pub begins_char : ℕ → Bool
begins_char byte = nat_lt byte 128 || nat_lt 191 byte

-- the number of code points
abbrev pub char_count : List ℕ → ℕ
char_count text = count_by begins_char text

-- the first n code points, or all where there are fewer
abbrev pub first_chars : ℕ → List ℕ → List ℕ
first_chars n [] = []
first_chars zero (byte ∷ text) = if begins_char byte then [] else byte ∷ first_chars zero text
first_chars (suc n) (byte ∷ text) = if begins_char byte then byte ∷ first_chars n text else byte ∷ first_chars (suc n) text

-- the text without its first n code points
abbrev pub without_chars : ℕ → List ℕ → List ℕ
without_chars n text = drop (length (first_chars n text)) text

-- a place of a code point, from 1
abbrev pub place_from : ℤ → ℕ
place_from (pos zero) = 1
place_from (pos (suc n)) = suc n
place_from (negsuc n) = 1

-- a place up to which code points are taken
abbrev pub place_to : ℤ → ℕ
place_to (pos n) = n
place_to (negsuc n) = 0

-- the code points from place max(from, 1) to place `to`, as far as they are there
unfoldable pub part_of_text : List ℕ → ℤ → ℤ → List ℕ
part_of_text text from to = first_chars (place_to to + 1 - place_from from) (without_chars (place_from from - 1) text)
