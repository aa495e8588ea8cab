-- Dates and their days stand in one order.
use Rattle.std.proofs.Common.{ℕ, ◌<◌, ◌≤◌, ℤ, pos, ◌<ℤ◌, Bool, true, false, if◌then◌else◌, ◌⊎◌, inl, inr, Some, None, ◌≡◌, refl, sym, ap, subst, ◌∙◌, arith}
use Rattle.std.proofs.lemmas.Bool.{cases_order}
use Rattle.std.proofs.lemmas.Int.{ints}
use Rattle.jiff_core.specs.Calendar.{days_in_month, days_from_civil, day_count, IsCivilDate}
use Rattle.jiff_core.proofs.SignedLemmas.{signed_arith}
use Rattle.jiff_core.proofs.CalendarLemmas.{days_from_civil-day_count, day_count-epoch, day_count-lt_year, day_count-lt_month, day_count-day}
use Rattle.scalar_fns.specs.Days.{is_date, day_of_date, year_of, month_of, month_day_of}
use Rattle.scalar_value.specs.Order.{is_day}
use Rattle.scalar_fns.specs.DayLaws.{IsBefore, DaysAreOrdered, EpochIsDayZero, HasDate}
use Rattle.scalar_fns.proofs.Calendar.{tested, date_there, year_is, month_is, month_day_is}

count_lt : (y m d y₂ m₂ d₂ : ℕ) → IsCivilDate (pos y) m d → 1 ≤ d₂ → IsBefore y m d y₂ m₂ d₂ → day_count (pos y) m d < day_count (pos y₂) m₂ d₂
count_lt y m d y₂ m₂ d₂ civil first (inl year) = day_count-lt_year (pos y) m d (pos y₂) m₂ d₂ civil first (omega (arith, ints))
count_lt y m d y₂ m₂ d₂ civil first (inr (year, inl month)) = rw (← year) (day_count-lt_month (pos y) m d m₂ d₂ civil first month)
count_lt y m d y₂ m₂ d₂ civil first (inr (year, inr day)) =
    rw (← year, ← day.0) (omega (arith, day.1, day_count-day (pos y) m d d₂ civil.2.0 first))

-- what a date that is there says of its parts
record Parts (y m d : ℕ) (a : ℤ) : Type 0 where
  civil : IsCivilDate (pos y) m d
  is : days_from_civil (pos y) m d ≡ a

parts_by : (y m d : ℕ) (a : ℤ) (b : Bool) → y ≤ 9999 → is_date y m d ≡ b → (if b then Some (days_from_civil (pos y) m d) else None) ≡ Some a → Parts y m d a
parts_by y m d a true high e h =
    let t = tested m d (days_in_month (pos y) m) e in
    record { civil = ((omega (arith, ints), omega (arith, ints)), (t.0, t.1), (t.2, t.3)); is = cc }
parts_by y m d a false high e h = cc

parts : (y m d : ℕ) (a : ℤ) → y ≤ 9999 → day_of_date y m d ≡ Some a → Parts y m d a
unfolding day_of_date
parts y m d a high h = parts_by y m d a (is_date y m d) high refl h

days_lt : (y m d y₂ m₂ d₂ : ℕ) (a b : ℤ) → Parts y m d a → Parts y₂ m₂ d₂ b → IsBefore y m d y₂ m₂ d₂ → a <ℤ b
days_lt y m d y₂ m₂ d₂ a b p q h =
    omega (arith, signed_arith, p.is, q.is, days_from_civil-day_count (pos y) m d, days_from_civil-day_count (pos y₂) m₂ d₂, count_lt y m d y₂ m₂ d₂ p.civil q.civil.2.0 h)

cases_date : (y m d y₂ m₂ d₂ : ℕ) → IsBefore y m d y₂ m₂ d₂ ⊎ (IsBefore y₂ m₂ d₂ y m d ⊎ ((y ≡ y₂) × (m ≡ m₂) × (d ≡ d₂)))
cases_date y m d y₂ m₂ d₂ =
    elim (cases_order y y₂) [
      | inr (inl lt) ↦ inl (inl lt)
      | inl year ↦ elim (cases_order m m₂) [
        | inr (inl lt) ↦ inl (inr (year, inl lt))
        | inl month ↦ elim (cases_order d d₂) [
          | inr (inl lt) ↦ inl (inr (year, inr (month, lt)))
          | inl day ↦ inr (inr (year, month, day))
          | inr (inr gt) ↦ inr (inl (inr (sym year, inr (sym month, gt))))
        ]
        | inr (inr gt) ↦ inr (inl (inr (sym year, inl gt)))
      ]
      | inr (inr gt) ↦ inr (inl (inl gt))
    ]

same_days : (y m d y₂ m₂ d₂ : ℕ) (a b : ℤ) → Parts y m d a → Parts y₂ m₂ d₂ b → y ≡ y₂ → m ≡ m₂ → d ≡ d₂ → a ≡ b
same_days y m d y₂ m₂ d₂ a b p q year month day = sym p.is ∙ (rw (year, month, day) refl) ∙ q.is

before : (y m d y₂ m₂ d₂ : ℕ) (a b : ℤ) → Parts y m d a → Parts y₂ m₂ d₂ b → a <ℤ b → IsBefore y m d y₂ m₂ d₂
before y m d y₂ m₂ d₂ a b p q h =
    elim (cases_date y m d y₂ m₂ d₂) [
      | inl lt ↦ lt
      | inr (inl gt) ↦ absurd (omega (arith, ints, days_lt y₂ m₂ d₂ y m d b a q p gt))
      | inr (inr same) ↦ absurd (omega (arith, ints, same_days y m d y₂ m₂ d₂ a b p q same.0 same.1 same.2))
    ]

pub ordered : DaysAreOrdered
ordered y m d y₂ m₂ d₂ a b high high₂ h k =
    let p = parts y m d a high h in
    let q = parts y₂ m₂ d₂ b high₂ k in
    (λ lt. before y m d y₂ m₂ d₂ a b p q lt, λ first. days_lt y m d y₂ m₂ d₂ a b p q first)

pub start : EpochIsDayZero
start = date_there 1970 1 1 (omega (arith, ints), (omega (arith, ints), omega (arith, ints)), (omega (arith, ints), omega (arith, ints))) ∙ ap (λ (z : ℤ). Some z) (omega (arith, signed_arith, days_from_civil-day_count (pos 1970) 1 1, day_count-epoch))

there : (y m d : ℕ) (day : ℤ) → IsCivilDate (pos y) m d → days_from_civil (pos y) m d ≡ day → day_of_date y m d ≡ Some day
there y m d day civil is =
    date_there y m d (civil.0, (omega (arith, ints, civil.1.0), omega (arith, ints, civil.1.1)), (omega (arith, ints, civil.2.0), omega (arith, ints, civil.2.1))) ∙ ap (λ (z : ℤ). Some z) is

moved : (year : ℤ) (m d y₂ m₂ d₂ : ℕ) (day : ℤ) → year ≡ pos y₂ → m ≡ m₂ → d ≡ d₂ → IsCivilDate year m d → days_from_civil year m d ≡ day → day_of_date y₂ m₂ d₂ ≡ Some day
moved year m d y₂ m₂ d₂ day y month place civil is =
    let P : ℤ → Type 0 = λ z. IsCivilDate z m d × (days_from_civil z m d ≡ day) in
    let Q : ℕ → Type 0 = λ n. IsCivilDate (pos y₂) n d × (days_from_civil (pos y₂) n d ≡ day) in
    let R : ℕ → Type 0 = λ n. IsCivilDate (pos y₂) m₂ n × (days_from_civil (pos y₂) m₂ n ≡ day) in
    let all = subst R place (subst Q month (subst P y (civil, is))) in
    there y₂ m₂ d₂ day all.0 all.1

pub has_date : (year : ℤ) (m d : ℕ) (day : ℤ) → IsCivilDate year m d → days_from_civil year m d ≡ day → is_day day ≡ true → HasDate day
has_date year m d day civil is h =
    moved year m d (year_of day) (month_of day) (month_day_of day) day (year_is year m d day civil is h) (month_is year m d day civil is h) (month_day_is year m d day civil is h) civil is
