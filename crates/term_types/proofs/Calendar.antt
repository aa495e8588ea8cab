-- The day of a text is one of the calendar.
use Rattle.std.proofs.Common.{ℕ, zero, suc, ◌+◌, ◌*◌, ◌≤◌, ℤ, pos, neg_ℤ, ◌≤ℤ◌, Bool, true, false, ◌&&◌, ◌==◌, List, [], ◌∷◌, Some, None, if◌then◌else◌, ◌≡◌, refl, arith}
use Rattle.std.specs.Char.{is_ascii_digit}
use Rattle.std.proofs.lemmas.Int.{ints}
use Rattle.std.proofs.lemmas.Bool.Decides.{nat_tests}
use Rattle.jiff_core.specs.Calendar.{days_in_month, days_from_civil, day_count, IsCivilDate}
use Rattle.jiff_core.proofs.SignedLemmas.{signed_arith}
use Rattle.jiff_core.proofs.MarchLemmas.{day_count-early}
use Rattle.jiff_core.proofs.CalendarLemmas.{days_from_civil-day_count, day_count-day_of_year, day_count-later_year, day_count_bounds}
use Rattle.scalar_value.specs.Order.{is_day}
use Rattle.scalar_fns.specs.Days.{is_date, day_of_date, day_of_text, two_digits}
use Rattle.scalar_fns.proofs.Calendar.{tested}

in_range : (z : ℤ) → neg_ℤ (pos 719528) ≤ℤ z → z ≤ℤ pos 2932896 → is_day z ≡ true
in_range z low high = grind (arith, ints)

first_count : day_count (pos 0) 1 1 ≡ 3652425
first_count = day_count-early (pos 0) 9999 1 1 refl (omega arith) (omega arith) (omega arith)

year_count : (y : ℕ) → 3652425 ≤ day_count (pos y) 1 1
year_count zero = omega (arith, first_count)
year_count (suc n) = omega (arith, first_count, day_count-later_year (pos 0) (pos (suc n)) (omega (arith, ints)) (omega (arith, ints)))

civil_day : (y m d : ℕ) → IsCivilDate (pos y) m d → is_day (days_from_civil (pos y) m d) ≡ true
civil_day y m d civil =
    let high = day_count_bounds (pos y) m d civil in
    let low : 3652425 ≤ day_count (pos y) m d = omega (arith, year_count y, civil.2.0, day_count-day_of_year (pos y) m d civil.2.0) in
    let number = days_from_civil-day_count (pos y) m d in
    in_range (days_from_civil (pos y) m d) (omega (arith, signed_arith, number, low)) (omega (arith, signed_arith, number, high.1))

date_by : (y m d : ℕ) (z : ℤ) (b : Bool) → y ≤ 9999 → is_date y m d ≡ b → (if b then Some (days_from_civil (pos y) m d) else None) ≡ Some z → is_day z ≡ true
date_by y m d z true high e h =
    let t = tested m d (days_in_month (pos y) m) e in
    let same : days_from_civil (pos y) m d ≡ z = cc in
    rw (← same) (civil_day y m d ((omega (arith, ints), omega (arith, ints)), (t.0, t.1), (t.2, t.3)))
date_by y m d z false high e h = cc h

date_day : (y m d : ℕ) (z : ℤ) → y ≤ 9999 → day_of_date y m d ≡ Some z → is_day z ≡ true
unfolding day_of_date
date_day y m d z high h = date_by y m d z (is_date y m d) high refl h

two_low : (a b : ℕ) → is_ascii_digit a ≡ true → is_ascii_digit b ≡ true → two_digits a b ≤ 99
two_low a b h k = grind (arith, nat_tests)

both : (a b : Bool) → (a && b) ≡ true → (a ≡ true) × (b ≡ true)
both true b h = (refl, h)
both false b h = cc h

-- four digits write at most 9999
four_low : (a b c d : ℕ) (rest : Bool) → ((is_ascii_digit a && is_ascii_digit b && is_ascii_digit c && is_ascii_digit d) && rest) ≡ true → two_digits a b * 100 + two_digits c d ≤ 9999
four_low a b c d rest h =
    let all = (both _ rest h).0 in
    let d_is = both (is_ascii_digit a && is_ascii_digit b && is_ascii_digit c) (is_ascii_digit d) all in
    let c_is = both (is_ascii_digit a && is_ascii_digit b) (is_ascii_digit c) d_is.0 in
    let ab = both (is_ascii_digit a) (is_ascii_digit b) c_is.0 in
    omega (arith, two_low a b ab.0 ab.1, two_low c d c_is.1 d_is.1)

text_by : (y m d : ℕ) (z : ℤ) (t : Bool) → (t ≡ true → y ≤ 9999) → (if t then day_of_date y m d else None) ≡ Some z → is_day z ≡ true
text_by y m d z true low h = date_day y m d z (low refl) h
text_by y m d z false low h = cc h

pub text_day : (text : List ℕ) (z : ℤ) → day_of_text text ≡ Some z → is_day z ≡ true
text_day (a ∷ b ∷ c ∷ d ∷ e ∷ f ∷ g ∷ h ∷ i ∷ j ∷ []) z is =
    let year = is_ascii_digit a && is_ascii_digit b && is_ascii_digit c && is_ascii_digit d in
    let month = e == 45 && is_ascii_digit f && is_ascii_digit g in
    let day = h == 45 && is_ascii_digit i && is_ascii_digit j in
    text_by (two_digits a b * 100 + two_digits c d) (two_digits f g) (two_digits i j) z (year && month && day) (λ t. four_low a b c d month (both (year && month) day t).0) is
text_day text z is = cc is
