-- The year, month and day that are found by what has begun are those of the day's date.
use Rattle.std.proofs.Common.{nat_lt, nat_le, Some, None, ap₂, ℕ, zero, suc, ◌+◌, ◌-◌, ◌<◌, ◌≤◌, ℤ, pos, negsuc, neg_ℤ, ◌+ℤ◌, ◌-ℤ◌, ◌≤ℤ◌, ◌<ℤ◌, int_le, unsigned_abs, Bool, true, false, ◌&&◌, if◌then◌else◌, ◌⊎◌, inl, inr, ◌≡◌, refl, sym, ap, ◌∙◌, arith}
use Rattle.std.proofs.lemmas.Int.{ints}
use Rattle.jiff_core.specs.Calendar.{days_in_month, days_from_civil, day_count, IsCivilDate, IsDate}
use Rattle.jiff_core.proofs.SignedLemmas.{signed_arith}
use Rattle.jiff_core.proofs.MarchLemmas.{day_count-early}
use Rattle.jiff_core.proofs.CalendarLemmas.{days_from_civil-day_count, day_count-lt_year, day_count-lt_month, day_count-day, day_count-day_of_year}
use Rattle.jiff_core.proofs.DateLemmas.{days_from_civil-day}
use Rattle.scalar_value.specs.Order.{is_day}
use Rattle.scalar_fns.specs.Days.{last_from, has_begun, year_of, month_of, month_day_of, is_date, day_of_date}

by_order : {P : Type 0} (k n : ℕ) → k ≤ n → (k < n → P) → (k ≡ n → P) → P
by_order k n h lt eq = elim (cases k n h) [ inl a ↦ lt a | inr b ↦ eq b ] where
  by_test : (k n : ℕ) → k ≤ n → (b : Bool) → nat_lt k n ≡ b → (k < n) ⊎ (k ≡ n)
  by_test k n h true e = inl (grind arith)
  by_test k n h false e = inr (grind arith)

  cases : (k n : ℕ) → k ≤ n → (k < n) ⊎ (k ≡ n)
  cases k n h = by_test k n h (nat_lt k n) refl

top_excluded : (test : ℕ → Bool) (n k : ℕ) → k ≤ suc n → test k ≡ true ⊎ (k ≡ 0) → test (suc n) ≡ false → k ≤ n
top_excluded test n k h (inl p) e = by_order k (suc n) h (λ lt. omega arith) (λ same. absurd (let clash : true ≡ false = sym p ∙ ap test same ∙ e in cc))
top_excluded test n k h (inr p) e = omega arith

at_top : (test : ℕ → Bool) (n k : ℕ) → k ≤ suc n → test k ≡ true ⊎ (k ≡ 0) → ((j : ℕ) → k < j → j ≤ suc n → test j ≡ false) → (b : Bool) → test (suc n) ≡ b → (k ≤ n → test k ≡ true ⊎ (k ≡ 0) → ((j : ℕ) → k < j → j ≤ n → test j ≡ false) → last_from test n ≡ k) → (if b then suc n else last_from test n) ≡ k
at_top test n k h p none true e below =
    by_order k (suc n) h (λ lt. let f = none (suc n) lt le_refl_suc in absurd (let clash : true ≡ false = sym e ∙ f in cc)) (λ same. sym same) where
      le_refl_suc : suc n ≤ suc n
      le_refl_suc = omega arith
at_top test n k h p none false e below =
    below (top_excluded test n k h p e) p (λ j a l. none j a (omega arith))

-- the last number that passes is the one that passes while none above it does
above_none : (test : ℕ → Bool) (n k : ℕ) → k ≤ n → test k ≡ true ⊎ (k ≡ 0) → ((j : ℕ) → k < j → j ≤ n → test j ≡ false) → last_from test n ≡ k
unfolding last_from
above_none test zero k h p none = omega arith
above_none test (suc n) k h p none = at_top test n k h p none (test (suc n)) refl (λ l q f. above_none test n k l q f)

day_count-zero : day_count (pos 0) 1 1 ≡ 3652425
day_count-zero = day_count-early (pos 0) 9999 1 1 refl (omega arith) (omega arith) (omega arith)

pub is_low : (day : ℤ) → is_day day ≡ true → neg_ℤ (pos 719528) ≤ℤ day
is_low day h = grind (arith, ints)

le_true : (a b : ℤ) → a ≤ℤ b → int_le a b ≡ true
le_true a b h = grind (arith, ints)

le_false : (a b : ℤ) → b <ℤ a → int_le a b ≡ false
le_false a b h = grind (arith, ints)

begun : (day : ℤ) (y k m n d : ℕ) → days_from_civil (pos y) m d ≡ day → day_count (pos k) n 1 ≤ day_count (pos y) m d → has_begun day k n ≡ true
begun day y k m n d e h = le_true (days_from_civil (pos k) n 1) day (omega (arith, signed_arith, days_from_civil-day_count (pos k) n 1, days_from_civil-day_count (pos y) m d))

not_begun : (day : ℤ) (y k m n d : ℕ) → days_from_civil (pos y) m d ≡ day → day_count (pos y) m d < day_count (pos k) n 1 → has_begun day k n ≡ false
not_begun day y k m n d e h = le_false (days_from_civil (pos k) n 1) day (omega (arith, signed_arith, days_from_civil-day_count (pos k) n 1, days_from_civil-day_count (pos y) m d))

year_is_nat : (y m d : ℕ) (day : ℤ) → IsCivilDate (pos y) m d → days_from_civil (pos y) m d ≡ day → year_of day ≡ y
unfolding year_of
year_is_nat y m d day civil e =
    above_none _ 9999 y (omega (arith, signed_arith, civil.0.1)) (inl (begun day y y m 1 d e (omega (arith, day_count-day_of_year (pos y) m d civil.2.0))))
    (λ j above within. not_begun day y j m 1 d e (day_count-lt_year (pos y) m d (pos j) 1 1 civil (omega arith) (omega (arith, signed_arith))))

pub year_is : (year : ℤ) (m d : ℕ) (day : ℤ) → IsCivilDate year m d → days_from_civil year m d ≡ day → is_day day ≡ true → year ≡ pos (year_of day)
year_is (pos y) m d day civil e h = ap pos (sym (year_is_nat y m d day civil e))
year_is (negsuc y) m d day civil e h =
    let low = is_low day h in
    absurd (omega (arith, signed_arith, days_from_civil-day_count (negsuc y) m d, day_count-zero, day_count-lt_year (negsuc y) m d (pos 0) 1 1 civil (omega arith) (omega (arith, signed_arith))))

month_is_nat : (y m d : ℕ) (day : ℤ) → IsCivilDate (pos y) m d → days_from_civil (pos y) m d ≡ day → month_of day ≡ m
unfolding month_of
month_is_nat y m d day civil e =
    ap (λ (k : ℕ). last_from (has_begun day k) 12) (year_is_nat y m d day civil e)
    ∙ above_none _ 12 m civil.1.1 (inl (begun day y y m m d e (omega (arith, day_count-day (pos y) m 1 d (omega arith) civil.2.0, civil.2.0))))
    (λ j above within. not_begun day y y m j d e (day_count-lt_month (pos y) m d j 1 civil (omega arith) above))

pub month_is : (year : ℤ) (m d : ℕ) (day : ℤ) → IsCivilDate year m d → days_from_civil year m d ≡ day → is_day day ≡ true → m ≡ month_of day
month_is (pos y) m d day civil e h = sym (month_is_nat y m d day civil e)
month_is (negsuc y) m d day civil e h = let same = year_is (negsuc y) m d day civil e h in cc

back : (d : ℕ) → 1 ≤ d → d - 1 + 1 ≡ d
back d h = omega arith

since_first : (day first : ℤ) (n : ℕ) → day ≡ first +ℤ pos n → unsigned_abs (day -ℤ first) ≡ n
since_first day first n e = let gap : day -ℤ first ≡ pos n = omega (arith, ints) in ap unsigned_abs gap

month_day_is_nat : (y m d : ℕ) (day : ℤ) → IsCivilDate (pos y) m d → days_from_civil (pos y) m d ≡ day → month_day_of day ≡ d
unfolding month_day_of
month_day_is_nat y m d day civil e =
    let gap : day ≡ days_from_civil (pos y) m 1 +ℤ pos (d - 1) = omega (arith, signed_arith, days_from_civil-day (pos y) m 1 d (omega arith) civil.2.0, civil.2.0) in
    ap₂ (λ (k n : ℕ). unsigned_abs (day -ℤ days_from_civil (pos k) n 1) + 1) (year_is_nat y m d day civil e) (month_is_nat y m d day civil e)
    ∙ ap (λ (n : ℕ). n + 1) (since_first day (days_from_civil (pos y) m 1) (d - 1) gap) ∙ back d civil.2.0

pub month_day_is : (year : ℤ) (m d : ℕ) (day : ℤ) → IsCivilDate year m d → days_from_civil year m d ≡ day → is_day day ≡ true → d ≡ month_day_of day
month_day_is (pos y) m d day civil e h = sym (month_day_is_nat y m d day civil e)
month_day_is (negsuc y) m d day civil e h = let same = year_is (negsuc y) m d day civil e h in cc

-- a date that the calendar has, as tests
tests : (m d last : ℕ) → 1 ≤ m → m ≤ 12 → 1 ≤ d → d ≤ last → ((nat_le 1 m && nat_le m 12) && (nat_le 1 d && nat_le d last)) ≡ true
tests m d last a b c e = grind arith

pub tested : (m d last : ℕ) → ((nat_le 1 m && nat_le m 12) && (nat_le 1 d && nat_le d last)) ≡ true → (1 ≤ m) × (m ≤ 12) × (1 ≤ d) × (d ≤ last)
tested m d last h = (grind arith, grind arith, grind arith, grind arith)

is_true : (y m d : ℕ) → IsDate (pos y) (pos m) (pos d) → is_date y m d ≡ true
is_true y m d h =
    tests m d (days_in_month (pos y) m) (omega (arith, ints, h.1.0)) (omega (arith, ints, h.1.1)) (omega (arith, ints, h.2.0)) (omega (arith, ints, h.2.1))

is_false : (y m d : ℕ) → y ≤ 9999 → ¬ (IsDate (pos y) (pos m) (pos d)) → (b : Bool) → is_date y m d ≡ b → b ≡ false
is_false y m d low h true e =
    let parts = tested m d (days_in_month (pos y) m) e in
    absurd (h ((omega (arith, ints), omega (arith, ints)), (omega (arith, ints, parts.0), omega (arith, ints, parts.1)), (omega (arith, ints, parts.2), omega (arith, ints, parts.3))))
is_false y m d low h false e = refl

pub date_there : (y m d : ℕ) → IsDate (pos y) (pos m) (pos d) → day_of_date y m d ≡ Some (days_from_civil (pos y) m d)
unfolding day_of_date
date_there y m d h = ap (λ (b : Bool). if b then Some (days_from_civil (pos y) m d) else None) (is_true y m d h)

pub date_missing : (y m d : ℕ) → y ≤ 9999 → ¬ (IsDate (pos y) (pos m) (pos d)) → None ≡ day_of_date y m d
unfolding day_of_date
date_missing y m d low h =
    sym (ap (λ (b : Bool). if b then Some (days_from_civil (pos y) m d) else None) (is_false y m d low h (is_date y m d) refl))

pub same_number : {y z : ℤ} {m n d e : ℕ} → y ≡ z → pos m ≡ pos n → pos d ≡ pos e → days_from_civil y m d ≡ days_from_civil z n e
same_number {m = m} {n = n} {d = d} {e = e} p q r =
    let month : m ≡ n = cc in let day : d ≡ e = cc in rw (p, month, day) refl
