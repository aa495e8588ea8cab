-- The number that digits write, digit by digit.
use Rattle.std.proofs.Common.{◌≡◌, ℕ, suc, ◌+◌, ◌-◌, ◌*◌, ◌^◌, ◌<◌, ◌≤◌, pos, neg_ℤ, Bool, true, false, List, [], ◌∷◌, length, get_or, drop, take, length-drop, arith, refl, sym, ap, ◌∙◌, add-one, drop-cons, Option, Some, None, nat_lt, if◌then◌else◌, codes}
use Rattle.std.specs.Option.{option_map, option_and_then}
use Rattle.std.specs.Prelude.{nat_eq}
use Rattle.std.specs.List.{starts_with}
use Rattle.std.specs.Char.{is_ascii_digit, digit_value}
use Rattle.std.specs.Str.Parse.{digits_value_after}
use Rattle.std.proofs.lemmas.Bool.Decides.{nat_tests}
use Rattle.std.proofs.lemmas.Int.{ints}
use Rattle.std.proofs.lemmas.List.{take_all}
use Rattle.scalar_value.specs.Decimals.{is_digits, value_of}
use Rattle.scalar_value.specs.Numbers.{is_int}
use Rattle.csv_source.specs.Fields.{below, digits_of_text, within_int, int_of_text}

-- more digits make no smaller number
digits-grow : (n : ℕ) (ds : List ℕ) → n ≤ digits_value_after 10 n ds
digits-grow n [] = omega arith
digits-grow n (c ∷ cs) = omega (arith, digits-grow (n * 10 + digit_value c) cs)

digit-range : (c : ℕ) → is_ascii_digit c ≡ true → (48 ≤ c) × (c ≤ 57)
digit-range c h = (grind (arith, nat_tests), grind (arith, nat_tests))

digit-less : (c : ℕ) → 48 ≤ c → c ≤ 57 → digit_value c + 48 ≡ c
digit-less c low high = grind (arith, nat_tests)

-- the digit at a place, before those behind it
digits-step : (n m i : ℕ) (ds : List ℕ) → i < length ds → is_ascii_digit (get_or ds i 0) ≡ true → m + 48 ≡ n * 10 + get_or ds i 0
    → digits_value_after 10 n (drop i ds) ≡ digits_value_after 10 m (drop (i + 1) ds)
digits-step n m i ds lt digit e =
    let range = digit-range (get_or ds i 0) digit in
    let less = digit-less (get_or ds i 0) range.0 range.1 in
    let next : n * 10 + digit_value (get_or ds i 0) ≡ m = omega arith in
    rw (add-one, drop-cons ds i 0) (ap (λ k. digits_value_after 10 k (drop (suc i) ds)) next)

at_limit : (limit n : ℕ) → limit ≤ n → below limit n ≡ None
at_limit limit n h = let none : nat_lt n limit ≡ false = grind arith in ap (λ b. if b then Some n else None) none

by_test : (b : Bool) (limit n : ℕ) → limit ≤ n → None ≡ option_and_then (below limit) (if b then Some n else None)
by_test true limit n h = sym (at_limit limit n h)
by_test false limit n h = refl

-- digits whose front passes the limit
pub too-great : (limit n r i : ℕ) (ds : List ℕ) → i < length ds → is_ascii_digit (get_or ds i 0) ≡ true → r ≡ get_or ds i 0 - 48
    → digits_value_after 10 n (drop i ds) ≡ digits_value_after 10 0 ds → limit ≤ n * 10 + r → None ≡ option_and_then (below limit) (digits_of_text ds)
unfolding digits_of_text
too-great limit n r i ds lt digit e whole past =
    let range = digit-range (get_or ds i 0) digit in
    let total = sym (digits-step n (n * 10 + r) i ds lt digit (omega arith)) ∙ whole in
    by_test (is_digits ds) limit (value_of ds) (omega (arith, total, digits-grow (n * 10 + r) (drop (i + 1) ds)))

-- which numbers have 64 bits
positive_by : (n : ℕ) (b : Bool) → nat_lt n (2 ^ 63) ≡ b → option_map (λ k. pos k) (if b then Some n else None) ≡ within_int (pos n)
positive_by n true e = let held : is_int (pos n) ≡ true = grind (arith, ints, nat_tests) in sym (ap (λ b. if b then Some (pos n) else None) held)
positive_by n false e = let held : is_int (pos n) ≡ false = grind (arith, ints, nat_tests) in sym (ap (λ b. if b then Some (pos n) else None) held)

positive : (o : Option ℕ) → option_map (λ n. pos n) (option_and_then (below (2 ^ 63)) o) ≡ option_and_then within_int (option_map (λ n. pos n) o)
positive None = refl
positive (Some n) = positive_by n (nat_lt n (2 ^ 63)) refl

negative_by : (n : ℕ) (b : Bool) → nat_lt n (2 ^ 63 + 1) ≡ b → option_map (λ k. neg_ℤ (pos k)) (if b then Some n else None) ≡ within_int (neg_ℤ (pos n))
negative_by n true e = let held : is_int (neg_ℤ (pos n)) ≡ true = grind (arith, ints, nat_tests) in sym (ap (λ b. if b then Some (neg_ℤ (pos n)) else None) held)
negative_by n false e = let held : is_int (neg_ℤ (pos n)) ≡ false = grind (arith, ints, nat_tests) in sym (ap (λ b. if b then Some (neg_ℤ (pos n)) else None) held)

negative : (o : Option ℕ) → option_map (λ n. neg_ℤ (pos n)) (option_and_then (below (2 ^ 63 + 1)) o) ≡ option_and_then within_int (option_map (λ n. neg_ℤ (pos n)) o)
negative None = refl
negative (Some n) = negative_by n (nat_lt n (2 ^ 63 + 1)) refl

-- a text without its first byte, as a slice
behind_first : (t : List ℕ) → take (length t - 1) (drop 1 t) ≡ drop 1 t
behind_first t = take_all (length t - 1) (drop 1 t) (omega (arith, length-drop 1 t))

pub with_minus : (t : List ℕ) → starts_with nat_eq t (codes "-") ≡ true
    → option_map (λ n. neg_ℤ (pos n)) (option_and_then (below (2 ^ 63 + 1)) (digits_of_text (take (length t - 1) (drop 1 t)))) ≡ int_of_text t
unfolding int_of_text
with_minus t e =
    ap (λ ds. option_map (λ n. neg_ℤ (pos n)) (option_and_then (below (2 ^ 63 + 1)) (digits_of_text ds))) (behind_first t)
    ∙ negative (digits_of_text (drop 1 t))
    ∙ sym (ap (λ b. option_and_then within_int (if b then option_map (λ n. neg_ℤ (pos n)) (digits_of_text (drop 1 t)) else option_map (λ n. pos n) (digits_of_text t))) e)

pub without_minus : (t : List ℕ) → starts_with nat_eq t (codes "-") ≡ false → option_map (λ n. pos n) (option_and_then (below (2 ^ 63)) (digits_of_text t)) ≡ int_of_text t
unfolding int_of_text
without_minus t e =
    positive (digits_of_text t)
    ∙ sym (ap (λ b. option_and_then within_int (if b then option_map (λ n. neg_ℤ (pos n)) (digits_of_text (drop 1 t)) else option_map (λ n. pos n) (digits_of_text t))) e)
