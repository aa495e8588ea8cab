-- The numbers of days follow the calendar: they go up from date to date, each number is the day of a date, and 0 is 1970-01-01.
use Rattle.std.specs.Prelude.{◌≡◌, ℕ, ◌<◌, ◌≤◌, ◌⊎◌, ◌↔◌, ℤ, pos, ◌<ℤ◌, Some}
use Rattle.scalar_fns.specs.Days.{day_of_date, year_of, month_of, month_day_of}

-- whether a date comes before another: by its year, then by its month, then by its place in the month
abbrev pub IsBefore : ℕ → ℕ → ℕ → ℕ → ℕ → ℕ → Type 0
IsBefore year month day year₂ month₂ day₂ = (year < year₂) ⊎ ((year ≡ year₂) × ((month < month₂) ⊎ ((month ≡ month₂) × (day < day₂))))

-- of two dates of the years up to 9999 the one that comes before has the smaller day, and the other way round
abbrev pub DaysAreOrdered : Type 0
DaysAreOrdered =
    (year month day year₂ month₂ day₂ : ℕ) (a b : ℤ) → year ≤ 9999 → year₂ ≤ 9999 → day_of_date year month day ≡ Some a → day_of_date year₂ month₂ day₂ ≡ Some b → (a <ℤ b) ↔ IsBefore year month day year₂ month₂ day₂

abbrev pub EpochIsDayZero : Type 0
EpochIsDayZero = day_of_date 1970 1 1 ≡ Some (pos 0)

-- the date of this year, month and place in the month is there, and is the day
abbrev pub HasDate : ℤ → Type 0
HasDate day = day_of_date (year_of day) (month_of day) (month_day_of day) ≡ Some day
