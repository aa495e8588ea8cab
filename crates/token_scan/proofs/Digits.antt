-- The number that digits write.
use Rattle.std.proofs.Common.{◌≡◌, ℕ, zero, suc, ◌+◌, ◌-◌, ◌*◌, ◌<◌, ◌≤◌, Bool, true, false, cond, List, [], ◌∷◌, ◌++◌, length, get_or, take, drop, arith, refl, sym, ◌∙◌, add-one, drop-cons, Option, Some, None, lit<, replicate, ap}
use Rattle.std.specs.Prelude.{nat_lt}
use Rattle.std.specs.Option.{option_and_then}
use Rattle.std.proofs.lemmas.Option.{cond_some}
use Rattle.std.proofs.lemmas.Str.Parse.{digit_at}
use Rattle.std.proofs.lemmas.List.{drop-replicate, length-replicate, take_all}
use Rattle.token_scan.specs.Numbers.{below}
use Rattle.std.specs.Char.{is_ascii_digit, digit_value}
use Rattle.std.specs.List.{prefix_len}
use Rattle.std.specs.Str.Parse.{AllDigits, digits_value_after}
use Rattle.std.proofs.lemmas.Bool.Decides.{nat_tests}

-- more digits make no smaller number
pub digits-grow : (n : ℕ) (ds : List ℕ) → n ≤ digits_value_after 10 n ds
digits-grow n [] = omega arith
digits-grow n (c ∷ cs) = omega (arith, digits-grow (n * 10 + digit_value c) cs)

pub digits-append : (n : ℕ) (xs ys : List ℕ) → digits_value_after 10 n (xs ++ ys) ≡ digits_value_after 10 (digits_value_after 10 n xs) ys
digits-append n [] ys = refl
digits-append n (c ∷ cs) ys = digits-append (n * 10 + digit_value c) cs ys

digit-value : (c : ℕ) → is_ascii_digit c ≡ true → digit_value c < 10
digit-value c h = grind (arith, nat_tests)

digits-run_at : (b n : ℕ) (bs : List ℕ) (v : Bool) → is_ascii_digit b ≡ v → AllDigits 10 (take n bs) → AllDigits 10 (take (cond v (1 + n) 0) (b ∷ bs))
digits-run_at b n bs true e h = let s : 1 + n ≡ suc n = omega arith in rw s (digit-value b e, h)
digits-run_at b n bs false e h = tt

-- a run of digits is all digits
pub digits-run : (bs : List ℕ) → AllDigits 10 (take (prefix_len is_ascii_digit bs) bs)
digits-run [] = tt
digits-run (b ∷ bs) = digits-run_at b (prefix_len is_ascii_digit bs) bs (is_ascii_digit b) refl (digits-run bs)

pub digits-zeros : (n : ℕ) → AllDigits 10 (replicate n 48)
digits-zeros zero = tt
digits-zeros (suc n) = (lit< tt, digits-zeros n)

digit-less : (c : ℕ) → 48 ≤ c → c ≤ 57 → digit_value c ≡ c - 48
digit-less c low high = grind (arith, nat_tests)

-- one digit more
pub digits-step : (v i : ℕ) (ds : List ℕ) → i < length ds → AllDigits 10 ds → digits_value_after 10 v (drop i ds) ≡ digits_value_after 10 (v * 10 + (get_or ds i 0 - 48)) (drop (i + 1) ds)
digits-step v i ds lt all =
    let range = digit_at ds i all lt in
    rw (add-one, drop-cons ds i 0) (ap (λ d. digits_value_after 10 (v * 10 + d) (drop (suc i) ds)) (digit-less (get_or ds i 0) range.0 range.1))

-- at its limit a number is none
pub below-none : (limit n : ℕ) → limit ≤ n → below limit n ≡ None
below-none limit n h = grind (arith, nat_tests)

below-is_none : (limit n : ℕ) → None ≡ below limit n → limit ≤ n
below-is_none limit n h = grind (arith, nat_tests)

below-is_some : (limit n v : ℕ) → Some v ≡ below limit n → n ≡ v
below-is_some limit n v h = (cond_some (nat_lt n limit) n v (sym h)).1

-- digits behind those of a number that is none, and behind those of one that is there
pub below-more : (limit n : ℕ) (xs ys : List ℕ) (r : Option ℕ) → r ≡ below limit (digits_value_after 10 n xs) → option_and_then (λ v. below limit (digits_value_after 10 v ys)) r ≡ below limit (digits_value_after 10 n (xs ++ ys))
below-more limit n xs ys None h =
    let past : limit ≤ digits_value_after 10 n xs = below-is_none limit _ h in
    let more : limit ≤ digits_value_after 10 (digits_value_after 10 n xs) ys = omega (arith, digits-grow (digits_value_after 10 n xs) ys) in
    rw (digits-append n xs ys) (sym (below-none limit _ more))
below-more limit n xs ys (Some v) h =
    rw (digits-append n xs ys, below-is_some limit _ v h) refl

zeros-short : (n y : ℕ) → length (replicate n y) ≤ n
zeros-short n y = omega (arith, length-replicate n y)

-- of six zeros those behind the first k
pub digits-zeros_behind : (k : ℕ) → ◌≡◌ {A = List ℕ} (take (6 - k) (drop k (48 ∷ 48 ∷ 48 ∷ 48 ∷ 48 ∷ 48 ∷ []))) (replicate (6 - k) 48)
digits-zeros_behind k =
    let e : drop k (replicate 6 48) ≡ replicate (6 - k) 48 = drop-replicate k 6 48 in
    ap (λ (xs : List ℕ). take (6 - k) xs) e ∙ take_all (6 - k) (replicate (6 - k) 48) (zeros-short (6 - k) 48)
