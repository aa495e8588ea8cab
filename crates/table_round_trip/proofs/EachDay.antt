-- Each day of the calendar has a date: 0000-01-01 has one, and so has each day behind one that has one, to 9999-12-31.
use Rattle.std.proofs.Common.{◌≡◌, ℕ, zero, suc, ◌+◌, ◌<◌, ◌≤◌, inl, inr, refl, sym, ap, ap₂, ◌∙◌, subst, arith, ℤ, pos, neg_ℤ, ◌+ℤ◌, ◌≤ℤ◌, unsigned_abs, true}
use Rattle.std.proofs.lemmas.Bool.{cases_lt}
use Rattle.std.proofs.lemmas.Int.{ints}
use Rattle.jiff_core.specs.Calendar.{days_in_month, days_from_civil, day_count, IsCivilDate, IsYear}
use Rattle.jiff_core.proofs.SignedLemmas.{signed_arith}
use Rattle.jiff_core.proofs.MarchLemmas.{day_count-early}
use Rattle.jiff_core.proofs.CalendarLemmas.{days_from_civil-day_count, days_in_month_bounds, day_count-day, day_count-next_month, day_count-next_year, day_count-last_of_year, day_count-end}
use Rattle.scalar_value.specs.Order.{is_day}
use Rattle.scalar_fns.specs.DayLaws.{HasDate}
use Rattle.scalar_fns.proofs.DayOrder.{has_date}

-- a date whose day has this place among the days from the year -10000 on
record Dated (n : ℕ) : Type 0 where
  y : ℕ
  m : ℕ
  d : ℕ
  civil : IsCivilDate (pos y) m d
  count : day_count (pos y) m d ≡ n

year_in : (y : ℕ) → y ≤ 9999 → IsYear (pos y)
year_in y h = (omega (arith, ints), omega (arith, ints))

within_month : (n y m d : ℕ) → IsCivilDate (pos y) m d → day_count (pos y) m d ≡ n → d < days_in_month (pos y) m → Dated (n + 1)
within_month n y m d civil count h =
    record {
      y = y;
      m = m;
      d = d + 1;
      civil = (civil.0, civil.1, (omega arith, omega arith));
      count = omega (arith, day_count-day (pos y) m d (d + 1) civil.2.0 (omega arith));
    }

within_year : (n y m d : ℕ) → IsCivilDate (pos y) m d → day_count (pos y) m d ≡ n → days_in_month (pos y) m ≤ d → m < 12 → Dated (n + 1)
within_year n y m d civil count last h =
    record {
      y = y;
      m = m + 1;
      d = 1;
      civil = (civil.0, (omega arith, omega arith), (omega arith, omega (arith, days_in_month_bounds (pos y) (m + 1))));
      count = omega (arith, civil.2.1, day_count-next_month (pos y) m civil.1.0, day_count-day (pos y) m d 1 civil.2.0 (omega arith));
    }

next_year : (n y : ℕ) → n < 7304849 → y ≤ 9999 → day_count (pos y) 12 31 ≡ n → Dated (n + 1)
next_year n y high year count =
    let next : day_count (pos (y + 1)) 1 1 ≡ n + 1 = omega (arith, day_count-last_of_year (pos y), day_count-next_year (pos y) (pos (y + 1)) (omega (arith, ints)) (omega (arith, ints))) in
    elim (cases_lt y 9999) [
      | inl low ↦ record { y = y + 1; m = 1; d = 1; civil = (year_in (y + 1) (omega arith), (omega arith, omega arith), (omega arith, omega arith)); count = next }
      | inr top ↦
          let same : y + 1 ≡ 10000 = omega arith in
          absurd (omega (arith, next, day_count-end, ap (λ (k : ℕ). day_count (pos k) 1 1) same))
    ]

behind_year : (n y m d : ℕ) → n < 7304849 → y ≤ 9999 → IsCivilDate (pos y) m d → day_count (pos y) m d ≡ n → days_in_month (pos y) m ≤ d → 12 ≤ m → Dated (n + 1)
behind_year n y m d high year civil count last h =
    let month : m ≡ 12 = omega (arith, civil.1.1) in
    let days : days_in_month (pos y) m ≡ 31 = rw month refl in
    let day : d ≡ 31 = omega (arith, civil.2.1) in
    next_year n y high year (ap₂ (λ (a b : ℕ). day_count (pos y) a b) (sym month) (sym day) ∙ count)

year_low : (y m d : ℕ) → IsCivilDate (pos y) m d → y ≤ 9999
year_low y m d civil = let high = civil.0.1 in omega (arith, ints)

next : (n y m d : ℕ) → n < 7304849 → IsCivilDate (pos y) m d → day_count (pos y) m d ≡ n → Dated (n + 1)
next n y m d high civil count =
    elim (cases_lt d (days_in_month (pos y) m)) [
      | inl lt ↦ within_month n y m d civil count lt
      | inr last ↦ elim (cases_lt m 12) [
        | inl lt ↦ within_year n y m d civil count last lt
        | inr dec ↦ behind_year n y m d high (year_low y m d civil) civil count last dec
      ]
    ]

from_first : (k : ℕ) → 3652425 + k ≤ 7304849 → Dated (3652425 + k)
from_first zero h =
    record {
      y = 0;
      m = 1;
      d = 1;
      civil = (year_in 0 (omega arith), (omega arith, omega arith), (omega arith, omega arith));
      count = day_count-early (pos 0) 9999 1 1 refl (omega arith) (omega arith) (omega arith);
    }
from_first (suc k) h =
    let e : 3652425 + k + 1 ≡ 3652425 + suc k = omega arith in
    let p = from_first k (omega arith) in
    subst Dated e (next (3652425 + k) p.y p.m p.d (omega arith) p.civil p.count)

low_day : (day : ℤ) → is_day day ≡ true → neg_ℤ (pos 719528) ≤ℤ day
low_day day h = grind (arith, ints)

high_day : (day : ℤ) → is_day day ≡ true → day ≤ℤ pos 2932896
high_day day h = grind (arith, ints)

pub each_has_date : (day : ℤ) → is_day day ≡ true → HasDate day
each_has_date day h =
    let low = low_day day h in
    let high = high_day day h in
    let k = unsigned_abs (day +ℤ pos 719528) in
    let place : pos k ≡ day +ℤ pos 719528 = omega (arith, ints) in
    let p = from_first k (omega (arith, ints)) in
    let is : days_from_civil (pos p.y) p.m p.d ≡ day = omega (arith, signed_arith, p.count, place, days_from_civil-day_count (pos p.y) p.m p.d) in
    has_date (pos p.y) p.m p.d day p.civil is h
