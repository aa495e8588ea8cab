-- The text of a day is read as that day.
use Rattle.std.proofs.Common.{◌≡◌, ℕ, zero, suc, ◌+◌, ◌*◌, ◌/◌, ◌<◌, ◌≤◌, Bool, true, false, if◌then◌else◌, List, [], ◌∷◌, ◌++◌, Some, None, refl, ◌∙◌, arith, ℤ, pos, lit<}
use Rattle.std.specs.Char.{is_ascii_digit}
use Rattle.std.specs.Str.{IsAscii}
use Rattle.std.proofs.lemmas.Bool.Decides.{nat_tests}
use Rattle.std.proofs.lemmas.Str.Ascii.{IsAscii-nil, IsAscii-cons}
use Rattle.jiff_core.specs.Calendar.{days_in_month, days_from_civil}
use Rattle.jiff_core.proofs.CalendarLemmas.{days_in_month_bounds}
use Rattle.scalar_value.specs.Order.{is_day}
use Rattle.scalar_fns.specs.Days.{last_from, has_begun, year_of, month_of, month_day_of, is_date, day_of_date, two_digits, day_of_text}
use Rattle.scalar_fns.specs.DayLaws.{HasDate}
use Rattle.scalar_fns.specs.Written.{last_digit, two_places, day_text}
use Rattle.scalar_fns.proofs.Calendar.{tested}
use Rattle.table_round_trip.proofs.EachDay.{each_has_date}

-- ---- digits

pub is_digit : (n : ℕ) → is_ascii_digit (last_digit n) ≡ true
is_digit n = grind (arith, nat_tests)

two_back : (n : ℕ) → n ≤ 99 → two_digits (last_digit (n / 10)) (last_digit n) ≡ n
two_back n h = omega arith

four_back : (n : ℕ) → n ≤ 9999 → two_digits (last_digit (n / 100 / 10)) (last_digit (n / 100)) * 100 + two_digits (last_digit (n / 10)) (last_digit n) ≡ n
four_back n h = let front = two_back (n / 100) (omega arith) in omega (arith, front)

-- ---- the parts of a day are of so many digits

last_by : (b : Bool) (n r : ℕ) → r ≤ n → (if b then suc n else r) ≤ suc n
last_by true n r h = omega arith
last_by false n r h = omega arith

last_le : (test : ℕ → Bool) (n : ℕ) → last_from test n ≤ n
unfolding last_from
last_le test zero = omega arith
last_le test (suc n) = last_by (test (suc n)) n (last_from test n) (last_le test n)

year_le : (day : ℤ) → year_of day ≤ 9999
unfolding year_of
year_le day = last_le _ 9999

month_le : (day : ℤ) → month_of day ≤ 99
unfolding month_of
month_le day = let h = last_le (has_begun day (year_of day)) 12 in omega (arith, h)

date_by : (y m d : ℕ) (z : ℤ) (b : Bool) → is_date y m d ≡ b → (if b then Some (days_from_civil (pos y) m d) else None) ≡ Some z → d ≤ 99
date_by y m d z true e h = let t = tested m d (days_in_month (pos y) m) e in omega (arith, t.3, days_in_month_bounds (pos y) m)
date_by y m d z false e h = cc h

date_le : (y m d : ℕ) (z : ℤ) → day_of_date y m d ≡ Some z → d ≤ 99
unfolding day_of_date
date_le y m d z h = date_by y m d z (is_date y m d) refl h

-- ---- the text is read

digits_read : (y m d : ℕ) → day_of_text (two_places (y / 100) ++ two_places y ++ 45 ∷ two_places m ++ 45 ∷ two_places d)
    ≡ day_of_date (two_digits (last_digit (y / 100 / 10)) (last_digit (y / 100)) * 100 + two_digits (last_digit (y / 10)) (last_digit y)) (two_digits (last_digit (m / 10)) (last_digit m)) (two_digits (last_digit (d / 10)) (last_digit d))
digits_read y m d =
    rw (is_digit (y / 100 / 10), is_digit (y / 100), is_digit (y / 10), is_digit y, is_digit (m / 10), is_digit m, is_digit (d / 10), is_digit d) refl

same_date : (y m d y₂ m₂ d₂ : ℕ) → y ≡ y₂ → m ≡ m₂ → d ≡ d₂ → day_of_date y m d ≡ day_of_date y₂ m₂ d₂
same_date y m d y₂ m₂ d₂ p q r = rw (p, q, r) refl

pub day_back : (day : ℤ) → is_day day ≡ true → day_of_text (day_text day) ≡ Some day
unfolding day_text
day_back day h =
    let is : HasDate day = each_has_date day h in
    digits_read (year_of day) (month_of day) (month_day_of day)
    ∙ same_date _ _ _ (year_of day) (month_of day) (month_day_of day) (four_back (year_of day) (year_le day)) (two_back (month_of day) (month_le day))
    (two_back (month_day_of day) (date_le (year_of day) (month_of day) (month_day_of day) day is))
    ∙ is

-- ---- and is ASCII

digit_low : (n : ℕ) → last_digit n < 128
digit_low n = omega arith

pub placed : (n : ℕ) (bs : List ℕ) → IsAscii bs → IsAscii (two_places n ++ bs)
placed n bs h = IsAscii-cons (last_digit (n / 10)) (last_digit n ∷ bs) (digit_low (n / 10)) (IsAscii-cons (last_digit n) bs (digit_low n) h)

dashed : (bs : List ℕ) → IsAscii bs → IsAscii (45 ∷ bs)
dashed bs h = IsAscii-cons 45 bs (lit< tt) h

pub day_ascii : (day : ℤ) → IsAscii (day_text day)
unfolding day_text
day_ascii day =
    let place = two_places (month_day_of day) in
    let month = two_places (month_of day) ++ 45 ∷ place in
    let year = two_places (year_of day) ++ 45 ∷ month in
    placed (year_of day / 100) year (placed (year_of day) (45 ∷ month) (dashed month (placed (month_of day) (45 ∷ place) (dashed place (placed (month_day_of day) [] IsAscii-nil)))))
