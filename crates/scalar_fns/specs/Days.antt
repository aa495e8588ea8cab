-- Days of the proleptic Gregorian calendar, counted from 1970-01-01. The number of a date counts the days of all the years
-- and months that lie between, each with its own length, leap years included.
use Rattle.std.specs.Prelude.{ℕ, zero, suc, ◌+◌, ◌-◌, ◌*◌, ◌%◌, ◌==◌, nat_le, ℤ, pos, ◌+ℤ◌, ◌-ℤ◌, int_le, unsigned_abs, Bool, ◌&&◌, if◌then◌else◌, Option, Some, None, List, [], ◌∷◌}
use Rattle.std.specs.Char.{is_ascii_digit}
use Rattle.jiff_core.specs.Calendar.{days_from_civil, days_in_month, weekday_number}
use Rattle.scalar_value.specs.Order.{is_day}

-- the last number from n down to 1 that passes the test, and 0 where none does
unfoldable pub last_from : (ℕ → Bool) → ℕ → ℕ
last_from test zero = 0
last_from test (suc n) = if test (suc n) then suc n else last_from test n

-- whether this month has begun by the day
abbrev pub has_begun : ℤ → ℕ → ℕ → Bool
has_begun day year month = int_le (days_from_civil (pos year) month 1) day

-- the last year from 0 to 9999 that has begun by the day
unfoldable pub year_of : ℤ → ℕ
year_of day = last_from (λ year. has_begun day year 1) 9999

-- the last month of that year that has begun by the day
unfoldable pub month_of : ℤ → ℕ
month_of day = last_from (has_begun day (year_of day)) 12

-- the place of the day in that month, from 1
unfoldable pub month_day_of : ℤ → ℕ
month_day_of day = unsigned_abs (day -ℤ days_from_civil (pos (year_of day)) (month_of day) 1) + 1

-- the day of the week, from 1 for Sunday to 7 for Saturday; Monday is 0 of `weekday_number`
abbrev pub wday_of : ℤ → ℕ
wday_of day = (weekday_number day + 1) % 7 + 1

-- so many days later
abbrev pub day_plus : ℤ → ℤ → Option ℤ
day_plus day n = if is_day (day +ℤ n) then Some (day +ℤ n) else None

-- whether the calendar has this date
abbrev pub is_date : ℕ → ℕ → ℕ → Bool
is_date year month day = (nat_le 1 month && nat_le month 12) && (nat_le 1 day && nat_le day (days_in_month (pos year) month))

-- the day of a date of the years from 0
unfoldable pub day_of_date : ℕ → ℕ → ℕ → Option ℤ
day_of_date year month day = if is_date year month day then Some (days_from_civil (pos year) month day) else None

abbrev pub two_digits : ℕ → ℕ → ℕ
two_digits a b = (a - 48) * 10 + (b - 48)

-- the day of a text: four digits, `-`, two digits, `-`, two digits
abbrev pub day_of_text : List ℕ → Option ℤ
day_of_text (a ∷ b ∷ c ∷ d ∷ e ∷ f ∷ g ∷ h ∷ i ∷ j ∷ []) =
    if (is_ascii_digit a && is_ascii_digit b && is_ascii_digit c && is_ascii_digit d) && (e == 45 && is_ascii_digit f && is_ascii_digit g) && (h == 45 && is_ascii_digit i && is_ascii_digit j) then day_of_date (two_digits a b * 100 + two_digits c d) (two_digits f g) (two_digits i j) else None
day_of_text text = None
