-- The text of a decimal is read as that decimal.
use Rattle.std.proofs.Common.{◌≡◌, ◌≢◌, ◌==◌, ℕ, zero, suc, ◌+◌, ◌-◌, ◌*◌, ◌/◌, ◌%◌, ◌^◌, ◌<◌, ◌≤◌, Bool, true, false, ◌&&◌, if◌then◌else◌, nat_lt, nat_le, List, [], ◌∷◌, ◌++◌, length, get_or, take, drop, length-take, Some, None, inl, inr, refl, sym, ap, ap₂, ◌∙◌, subst, arith, ℤ, pos, negsuc, neg_ℤ, decimal, pow-suc, lit<, option_map, option_and_then}
use Rattle.std.specs.Char.{is_ascii_digit, digit_value}
use Rattle.std.specs.List.{list_all, before_first, after_first, position_or_len, suffix_len}
use Rattle.std.specs.Str.{IsAscii}
use Rattle.std.proofs.lemmas.Bool.{and_parts, cases_Bool, cases_lt, lt-ltb, le-leb, eqb-true}
use Rattle.std.proofs.lemmas.Bool.Decides.{nat_tests}
use Rattle.std.proofs.lemmas.Fmt.{digits_decimal, digits_value-decimal, decimal_nonempty, IsAscii-decimal}
use Rattle.std.proofs.lemmas.Int.{ints}
use Rattle.std.proofs.lemmas.Int.Digits.{digits_value_more}
use Rattle.std.proofs.lemmas.List.{append-nil, take_all, take_at}
use Rattle.std.proofs.Math.Seq.{drop-append-add}
use Rattle.std.proofs.lemmas.List.Sums.{suffix_len_is}
use Rattle.std.proofs.lemmas.Str.{IsAscii-append, IsAscii-take}
use Rattle.std.proofs.lemmas.Str.Ascii.{IsAscii-nil, IsAscii-cons}
use Rattle.scalar_value.specs.Decimals.{is_digits, value_of, is_point, part_value, parted_size, dec_size, within_limit, dec_of_text}
use Rattle.scalar_value.specs.Numbers.{is_dec}
use Rattle.scalar_value.proofs.Digits.{own, size_whole, size_parted, within, less_than, unsigned_text}
use Rattle.scalar_fns.specs.Written.{last_digit, two_places, six_places, without_end_zeros, part_text, dec_text}
use Rattle.table_round_trip.proofs.DayTexts.{is_digit, placed}

pub and-false : (a b : Bool) → b ≡ false → (a && b) ≡ false
and-false true b h = h
and-false false b h = refl

-- ---- the six digits of a part

last_value : (n : ℕ) → digit_value (last_digit n) ≡ n % 10
last_value n = grind (arith, nat_tests)

pair : (n : ℕ) → n / 10 % 10 * 10 + n % 10 ≡ n % 100
pair n = omega arith

six_value : (r : ℕ) → r < 1000000 → value_of (six_places r) ≡ r
six_value r h =
    let front = pair (r / 10000) in
    let middle = pair (r / 100) in
    let back = pair r in
    let whole : r / 10000 % 100 * 10000 + r / 100 % 100 * 100 + r % 100 ≡ r = omega arith in
    rw (last_value (r / 10000 / 10), last_value (r / 10000), last_value (r / 100 / 10), last_value (r / 100), last_value (r / 10), last_value r) (omega (arith, front, middle, back, whole))

six_digits : (r : ℕ) → list_all is_ascii_digit (six_places r) ≡ true
six_digits r = rw (is_digit (r / 10000 / 10), is_digit (r / 10000), is_digit (r / 100 / 10), is_digit (r / 100), is_digit (r / 10), is_digit r) refl

-- ---- without the zeros at their end

digits-take : (n : ℕ) (ds : List ℕ) → list_all is_ascii_digit ds ≡ true → list_all is_ascii_digit (take n ds) ≡ true
digits-take zero [] h = refl
digits-take zero (d ∷ ds) h = refl
digits-take (suc n) [] h = refl
digits-take (suc n) (d ∷ ds) h = let p = and_parts (is_ascii_digit d) (list_all is_ascii_digit ds) h in rw p.0 (digits-take n ds p.1)

-- zeros at the end are powers of ten
kept : (ds : List ℕ) (j n : ℕ) → n + j ≡ length ds → ((k : ℕ) → n ≤ k → k < length ds → (get_or ds k 0 == 48) ≡ true) → value_of (take n ds) * 10 ^ j ≡ value_of ds
kept ds zero n e zeros = let all : take n ds ≡ ds = take_all n ds (omega arith) in rw all (omega arith)
kept ds (suc j) n e zeros =
    let last : get_or ds n 0 ≡ 48 = eqb-true (get_or ds n 0) 48 (zeros n (omega arith) (omega arith)) in
    let none : digit_value (get_or ds n 0) ≡ 0 = rw last refl in
    let more : value_of (take (n + 1) ds) ≡ value_of (take n ds) * 10 = omega (arith, digits_value_more 10 ds n (omega arith), none) in
    let rest : value_of (take n ds) * 10 * 10 ^ j ≡ value_of ds = ap (λ (v : ℕ). v * 10 ^ j) (sym more) ∙ kept ds j (n + 1) (omega arith) (λ k a b. zeros k (omega arith) b) in
    rw (pow-suc 10 j) (omega (arith, rest))

-- so many digits are left
record Trimmed (ds : List ℕ) : Type 0 where
  n : ℕ
  within : n ≤ length ds
  zeros : (k : ℕ) → n ≤ k → k < length ds → (get_or ds k 0 == 48) ≡ true
  last : 0 < n → (get_or ds (n - 1) 0 == 48) ≡ false

zero_at : (ds : List ℕ) (n k : ℕ) → (get_or ds n 0 == 48) ≡ true → ((k : ℕ) → suc n ≤ k → k < length ds → (get_or ds k 0 == 48) ≡ true) → n ≤ k → k < length ds → (get_or ds k 0 == 48) ≡ true
zero_at ds n k here zeros low high = elim (cases_lt n k) [
  | inl lt ↦ zeros k (omega arith) high
  | inr le ↦ let same : k ≡ n = omega arith in rw same here
]

trimmed : (ds : List ℕ) (n : ℕ) → n ≤ length ds → ((k : ℕ) → n ≤ k → k < length ds → (get_or ds k 0 == 48) ≡ true) → Trimmed ds
trimmed ds zero l zeros = record { n = 0; within = l; zeros = zeros; last = λ h. absurd (omega (arith, h)) }
trimmed ds (suc n) l zeros = elim (cases_Bool (get_or ds n 0 == 48)) [
  | inl is ↦ trimmed ds n (omega arith) (λ k low high. zero_at ds n k is zeros low high)
  | inr other ↦ record { n = suc n; within = l; zeros = zeros; last = λ h. let e : suc n - 1 ≡ n = omega arith in rw e other }
]

-- what stands behind the point for so many millionths
record IsPart (r : ℕ) (ds : List ℕ) : Type 0 where
  digits : is_digits ds ≡ true
  few : length ds ≤ 6
  value : part_value ds ≡ r

some_left : (n v p r : ℕ) → v * p ≡ r → 0 < r → (n ≡ 0 → v ≡ 0) → 0 < n
some_left zero v p r e h f = let none : v * p ≡ 0 = rw (f refl) (omega arith) in absurd (omega arith)
some_left (suc n) v p r e h f = omega arith

part_digits : (r : ℕ) → 0 < r → r < 1000000 → IsPart r (without_end_zeros (six_places r))
part_digits r some h =
    let ds = six_places r in
    let t = trimmed ds 6 (omega arith) (λ k low high. absurd (omega arith)) in
    let zeros = suffix_len_is (λ byte. byte == 48) ds t.n 0 t.within t.zeros t.last in
    let high : t.n ≤ 6 = t.within in
    let left : length ds - suffix_len (λ byte. byte == 48) ds ≡ t.n = omega (arith, zeros) in
    let size : length (take t.n ds) ≡ t.n = omega (arith, length-take t.n ds) in
    let value : value_of (take t.n ds) * 10 ^ (6 - t.n) ≡ r = kept ds (6 - t.n) t.n (omega arith) t.zeros ∙ six_value r h in
    let many : 0 < t.n = some_left t.n (value_of (take t.n ds)) (10 ^ (6 - t.n)) r value some (λ e. rw e refl) in
    let shown : nat_lt 0 (length (take t.n ds)) ≡ true = lt-ltb 0 (length (take t.n ds)) (omega arith) in
    subst (λ (k : ℕ). IsPart r (take k ds)) (sym left)
    (record {
      digits = rw (shown, digits-take t.n ds (six_digits r)) refl;
      few = omega arith;
      value = ap (λ (k : ℕ). value_of (take t.n ds) * 10 ^ (6 - k)) size ∙ value;
    })

-- ---- digits, a point and digits

no_digits : (xs ys : List ℕ) → list_all is_ascii_digit (xs ++ 46 ∷ ys) ≡ false
no_digits [] ys = refl
no_digits (x ∷ xs) ys = and-false (is_ascii_digit x) (list_all is_ascii_digit (xs ++ 46 ∷ ys)) (no_digits xs ys)

no_point : (x : ℕ) → is_ascii_digit x ≡ true → (x == 46) ≡ false
no_point x h = grind (arith, nat_tests)

at_point : (xs ys : List ℕ) → list_all is_ascii_digit xs ≡ true → position_or_len is_point (xs ++ 46 ∷ ys) ≡ length xs
at_point [] ys h = refl
at_point (x ∷ xs) ys h = let p = and_parts (is_ascii_digit x) (list_all is_ascii_digit xs) h in rw (no_point x p.0) (omega (arith, at_point xs ys p.1))

pub whole_digits : (q : ℕ) → q < 2 ^ 64 → is_digits (decimal q) ≡ true
whole_digits q fits = let some : nat_lt 0 (length (decimal q)) ≡ true = lt-ltb 0 (length (decimal q)) (decimal_nonempty q fits) in rw (some, digits_decimal own q fits) refl

parted : (q r : ℕ) (ds : List ℕ) → q < 2 ^ 64 → IsPart r ds → parted_size (decimal q) ds ≡ Some (q * 1000000 + r)
parted q r ds fits part =
    let tests : (is_digits (decimal q) && (is_digits ds && nat_le (length ds) 6)) ≡ true = rw (whole_digits q fits, part.digits, le-leb (length ds) 6 part.few) refl in
    ap (λ (b : Bool). if b then Some (value_of (decimal q) * 1000000 + part_value ds) else None) tests
    ∙ ap₂ (λ (a b : ℕ). Some (a * 1000000 + b)) (digits_value-decimal own q fits) part.value

with_part : (n q r : ℕ) (ds : List ℕ) → q * 1000000 + r ≡ n → n < 10 ^ 18 → IsPart r ds → dec_size (decimal q ++ 46 ∷ ds) ≡ Some n
with_part n q r ds e high part =
    let text = decimal q ++ 46 ∷ ds in
    let fits : q < 2 ^ 64 = omega arith in
    let place = at_point (decimal q) ds (digits_decimal own q fits) in
    let front : decimal q ≡ before_first is_point text = sym (ap (λ (k : ℕ). take k text) place ∙ take_at (decimal q) (46 ∷ ds) (length (decimal q)) refl) in
    let back : ds ≡ after_first is_point text = sym (ap (λ (k : ℕ). drop (k + 1) text) place ∙ drop-append-add (decimal q) (46 ∷ ds) 1) in
    let none : is_digits text ≡ false = and-false (nat_lt 0 (length text)) (list_all is_ascii_digit text) (no_digits (decimal q) ds) in
    sym (size_parted text (decimal q) ds none front back)
    ∙ ap (option_and_then within_limit) (parted q r ds fits part ∙ ap Some e)
    ∙ ap (λ (b : Bool). if b then Some n else None) (less_than n (10 ^ 18) high)

without_part : (n q r : ℕ) → r ≡ 0 → q * 1000000 + r ≡ n → n < 10 ^ 18 → dec_size (decimal q ++ []) ≡ Some n
without_part n q r none e high =
    let fits : q < 2 ^ 64 = omega arith in
    let same : q * 1000000 ≡ n = omega arith in
    ap dec_size (append-nil (decimal q)) ∙ size_whole (decimal q) (whole_digits q fits)
    ∙ ap (λ (k : ℕ). within_limit (k * 1000000)) (digits_value-decimal own q fits) ∙ within q (omega arith) ∙ ap Some same

-- ---- the text without its sign

zero_is : (r : ℕ) → (r == 0) ≡ true → r ≡ 0
zero_is r h = eqb-true r 0 h

some_is : (r : ℕ) → (r == 0) ≡ false → 0 < r
some_is r h = grind (arith, nat_tests)

size_by : (b : Bool) (n q r : ℕ) → (r == 0) ≡ b → q * 1000000 + r ≡ n → n < 10 ^ 18 → r < 1000000 → dec_size (decimal q ++ (if b then [] else 46 ∷ without_end_zeros (six_places r))) ≡ Some n
size_by true n q r is e high small = without_part n q r (zero_is r is) e high
size_by false n q r is e high small = with_part n q r (without_end_zeros (six_places r)) e high (part_digits r (some_is r is) small)

size_back : (n : ℕ) → n < 10 ^ 18 → dec_size (decimal (n / 1000000) ++ part_text (n % 1000000)) ≡ Some n
unfolding part_text
size_back n high = size_by (n % 1000000 == 0) n (n / 1000000) (n % 1000000) refl (omega arith) high (omega arith)

-- ---- the text with its sign

no_minus : (xs ys rest : List ℕ) → list_all is_ascii_digit xs ≡ true → 0 < length xs → xs ++ ys ≢ 45 ∷ rest
no_minus [] ys rest h l e = omega (arith, l)
no_minus (x ∷ xs) ys rest h l e =
    let p = and_parts (is_ascii_digit x) (list_all is_ascii_digit xs) h in
    let same : x ≡ 45 = cc in
    let clash : false ≡ true = sym (ap is_ascii_digit same) ∙ p.0 in cc clash

pub positive_size : (n : ℕ) → is_dec (pos n) ≡ true → n < 10 ^ 18
positive_size n h = grind (arith, ints)

pub negative_size : (n : ℕ) → is_dec (negsuc n) ≡ true → suc n < 10 ^ 18
negative_size n h = grind (arith, ints)

pub dec_back : (m : ℤ) → is_dec m ≡ true → dec_of_text (dec_text m) ≡ Some m
unfolding dec_text
dec_back (pos n) h =
    let high = positive_size n h in
    let q = n / 1000000 in
    let fits : q < 2 ^ 64 = omega arith in
    unsigned_text (decimal q ++ part_text (n % 1000000)) (λ rest. no_minus (decimal q) (part_text (n % 1000000)) rest (digits_decimal own q fits) (decimal_nonempty q fits))
    ∙ ap (option_map pos) (size_back n high)
dec_back (negsuc n) h = ap (option_map (λ (size : ℕ). neg_ℤ (pos size))) (size_back (suc n) (negative_size n h))

-- ---- and is ASCII

part_by : (b : Bool) (r : ℕ) → IsAscii (if b then [] else 46 ∷ without_end_zeros (six_places r))
part_by true r = IsAscii-nil
part_by false r =
    let low : 46 < 128 = lit< tt in
    let four = two_places (r / 100) ++ two_places r in
    let six = placed (r / 10000) four (placed (r / 100) (two_places r) (placed r [] IsAscii-nil)) in
    IsAscii-cons 46 (without_end_zeros (six_places r)) low (IsAscii-take (six_places r) (6 - suffix_len (λ byte. byte == 48) (six_places r)) six)

part_ascii : (r : ℕ) → IsAscii (part_text r)
unfolding part_text
part_ascii r = part_by (r == 0) r

size_ascii : (n : ℕ) → n < 10 ^ 18 → IsAscii (decimal (n / 1000000) ++ part_text (n % 1000000))
size_ascii n h = IsAscii-append (decimal (n / 1000000)) (part_text (n % 1000000)) (IsAscii-decimal (n / 1000000) (omega arith)) (part_ascii (n % 1000000))

pub dec_ascii : (m : ℤ) → is_dec m ≡ true → IsAscii (dec_text m)
unfolding dec_text
dec_ascii (pos n) h = size_ascii n (positive_size n h)
dec_ascii (negsuc n) h = IsAscii-cons 45 (decimal (suc n / 1000000) ++ part_text (suc n % 1000000)) (lit< tt) (size_ascii (suc n) (negative_size n h))
