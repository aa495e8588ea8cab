-- The text of a value, as it stands in a table that is written.
use Rattle.std.specs.Prelude.{ℕ, ◌+◌, ◌-◌, ◌/◌, ◌%◌, ◌==◌, ℤ, unsigned_abs, Bool, true, false, if◌then◌else◌, List, [], ◌∷◌, ◌++◌, length, take, codes, decimal}
use Rattle.std.specs.List.{suffix_len}
use Rattle.std.specs.Fmt.{signed_decimal}
use Rattle.scalar_value.specs.declared.value.Value.{Value}
use Rattle.scalar_value.specs.declared.value.Value.TheVariants.{Missing, Int, Dec, Chr, Day, Lgl}
use Rattle.scalar_value.specs.Numbers.{below_zero}
use Rattle.scalar_value.specs.Order.{is_day}
use Rattle.scalar_fns.specs.Days.{year_of, month_of, month_day_of}

-- the last digit of a number, as a byte
abbrev pub last_digit : ℕ → ℕ
last_digit n = 48 + n % 10

abbrev pub two_places : ℕ → List ℕ
two_places n = last_digit (n / 10) ∷ last_digit n ∷ []

abbrev pub six_places : ℕ → List ℕ
six_places n = two_places (n / 10000) ++ two_places (n / 100) ++ two_places n

-- digits without the zeros at their end
abbrev pub without_end_zeros : List ℕ → List ℕ
without_end_zeros digits = take (length digits - suffix_len (λ byte. byte == 48) digits) digits

-- where some of the millionths are left over, a point and their digits without the zeros at the end
unfoldable pub part_text : ℕ → List ℕ
part_text rest = if rest == 0 then [] else 46 ∷ without_end_zeros (six_places rest)

abbrev pub minus_text : ℤ → List ℕ
minus_text z = if below_zero z then 45 ∷ [] else []

-- `-` for a negative number, the whole part, and what is left over
unfoldable pub dec_text : ℤ → List ℕ
dec_text millionths = minus_text millionths ++ decimal (unsigned_abs millionths / 1000000) ++ part_text (unsigned_abs millionths % 1000000)

-- the year in four digits, the month and the day in two
unfoldable pub day_text : ℤ → List ℕ
day_text day =
    two_places (year_of day / 100) ++ two_places (year_of day) ++ 45 ∷ two_places (month_of day) ++ 45 ∷ two_places (month_day_of day)

-- the text of a value; a missing one is `NA`
abbrev pub written : Value → List ℕ
written (Int z) = signed_decimal z
written (Dec m) = dec_text m
written (Chr t) = t
written (Day d) = day_text d
written (Lgl true) = codes "TRUE"
written (Lgl false) = codes "FALSE"
written Missing = codes "NA"

-- whether a column of some type may hold the value: each day is one of the calendar
abbrev pub is_value : Value → Bool
is_value (Int z) = true
is_value (Dec m) = true
is_value (Chr t) = true
is_value (Day d) = is_day d
is_value (Lgl b) = true
is_value Missing = true
