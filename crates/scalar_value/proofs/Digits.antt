-- Digits: what `parse` reads of them, and how large they can be.
use Rattle.std.proofs.Common.{eqb-true, SomeIff, [], ◌∷◌, ◌≢◌, ◌==◌, ℤ, pos, neg_ℤ, zero, suc, lit<, pow-suc, ap₂, take, option_and_then, option_map, ℕ, ◌<◌, ◌≤◌, ◌+◌, ◌-◌, ◌*◌, ◌^◌, Bool, true, false, ◌≡◌, refl, sym, ap, ◌∙◌, List, length, rules, arith, nat_lt, nat_le, ◌&&◌, Option, Some, None, Result, Ok, Err, if◌then◌else◌}
use Rattle.std.specs.List.{list_all, before_first, after_first, position_or_len}
use Rattle.std.proofs.Math.Nat.{mul-le-mul_right, le_refl}
use Rattle.std.proofs.lemmas.Nat.{pow-add}
use Rattle.std.proofs.lemmas.List.{take_all}
use Rattle.std.specs.Char.{is_ascii_digit}
use Rattle.std.specs.Str.Parse.{digits_value, ParsesUnsigned}
use Rattle.std.proofs.lemmas.Str.Parse.{IsNumeralModel, numerals_by_value, parse_digits, digits_value_short}
use Rattle.std.proofs.lemmas.Int.{ints}
use Rattle.scalar_value.specs.Decimals.{IsDec, is_digits, value_of, is_point, part_value, parted_size, dec_size, within_limit, dec_of_text}

pub own : IsNumeralModel (λ ds. list_all is_ascii_digit ds ≡ true) (digits_value 10)
own = numerals_by_value _ (search rules)

both : (a b : Bool) → (a && b) ≡ true → (a ≡ true) × (b ≡ true)
both true b h = (refl, h)
both false b h = cc

pub digits_only : (ds : List ℕ) → is_digits ds ≡ true → list_all is_ascii_digit ds ≡ true
digits_only ds h = (both _ _ h).1

pub digits_some : (ds : List ℕ) → is_digits ds ≡ true → 0 < length ds
digits_some ds h = let first : nat_lt 0 (length ds) ≡ true = (both _ _ h).0 in grind arith

pub value_small : (ds : List ℕ) (k : ℕ) → is_digits ds ≡ true → length ds ≤ k → value_of ds < 10 ^ k
value_small ds k h l = digits_value_short own ds k (digits_only ds h) l

least : (n limit : ℕ) → (n < 2 ^ 64 → ⊥) → limit < 2 ^ 64 → limit ≤ n
least n limit h l = omega arith

-- a number that 64 bits do not hold is not below a limit that they hold
pub unread : {E : Type 0} (ds : List ℕ) (limit : ℕ) (e : E) → limit < 2 ^ 64 → is_digits ds ≡ true → ParsesUnsigned 64 10 ds (Err e) → None ≡ (if nat_lt (value_of ds) limit then Some (value_of ds) else None)
unread ds limit e small d h =
    let none : (0 < length ds) × (value_of ds < 2 ^ 64) → ⊥ = parse_digits own 64 ds (Err e) h (digits_only ds d) in
    let many = digits_some ds d in
    let large : limit ≤ value_of ds = least (value_of ds) limit (λ p. none (many, p)) small in
    let above : nat_lt (value_of ds) limit ≡ false = grind (arith, large) in
    sym (ap (λ (b : Bool). if b then Some (value_of ds) else None) above)

pub less_than : (n k : ℕ) → n < k → nat_lt n k ≡ true
less_than n k h = grind arith

pub not_less : (n k : ℕ) → k ≤ n → nat_lt n k ≡ false
not_less n k h = grind arith

by_less : (n k : ℕ) → nat_lt n k ≡ true → n < k
by_less n k h = grind arith

by_not_less : (n k : ℕ) → nat_lt n k ≡ false → k ≤ n
by_not_less n k h = grind arith

-- digits of so many places are below the power of ten, also once zeros are put behind
scaled_size : (n p q : ℕ) → n < q → 0 < p → q * p ≡ 1000000 → n * p < 1000000
scaled_size n p q l z e =
    let h : (n + 1) * p ≤ q * p = mul-le-mul_right p (omega arith) in omega (arith, h)

ten_pos : (k : ℕ) → 0 < 10 ^ k
ten_pos zero = lit< tt
ten_pos (suc k) = let h = ten_pos k in let e : 10 ^ suc k ≡ 10 ^ k * 10 = pow-suc 10 k in omega (arith, e)

pub part_small : (ds : List ℕ) (p : ℕ) → is_digits ds ≡ true → length ds ≤ 6 → p ≡ 10 ^ (6 - length ds) → value_of ds * p < 1000000
part_small ds p d l e =
    let six : length ds + (6 - length ds) ≡ 6 = omega arith in
    let whole : 10 ^ length ds * 10 ^ (6 - length ds) ≡ 1000000 = sym (pow-add 10 (length ds) (6 - length ds)) ∙ ap (λ (k : ℕ). 10 ^ k) six in
    rw e (scaled_size (value_of ds) (10 ^ (6 - length ds)) (10 ^ length ds) (value_small ds (length ds) d (le_refl (length ds))) (ten_pos (6 - length ds)) whole)

pub part_read : (ds : List ℕ) → is_digits ds ≡ true → length ds ≤ 6 → (if nat_lt (value_of ds) 1000000 then Some (value_of ds) else None) ≡ Some (value_of ds)
part_read ds d l =
    ap (λ (b : Bool). if b then Some (value_of ds) else None) (less_than (value_of ds) 1000000 (value_small ds 6 d l))

-- the size of a text by its form
pub size_whole : (t : List ℕ) → is_digits t ≡ true → dec_size t ≡ within_limit (value_of t * 1000000)
unfolding dec_size
size_whole t d = ap (λ (b : Bool). option_and_then within_limit (if b then Some (value_of t * 1000000) else parted_size (before_first is_point t) (after_first is_point t))) d

pub size_parted : (t whole part : List ℕ) → is_digits t ≡ false → whole ≡ before_first is_point t → part ≡ after_first is_point t → option_and_then within_limit (parted_size whole part) ≡ dec_size t
unfolding dec_size
size_parted t whole part d p q =
    ap₂ (λ (x y : List ℕ). option_and_then within_limit (parted_size x y)) p q
    ∙ sym (ap (λ (b : Bool). option_and_then within_limit (if b then Some (value_of t * 1000000) else parted_size (before_first is_point t) (after_first is_point t))) d)

no_parts : (whole part : List ℕ) → is_digits whole ≡ false → parted_size whole part ≡ None
no_parts whole part d =
    ap (λ (b : Bool). if b && (is_digits part && nat_le (length part) 6) then Some (value_of whole * 1000000 + part_value part) else None) d

pub size_none : (t : List ℕ) → is_digits t ≡ false → position_or_len is_point t ≡ length t → None ≡ dec_size t
size_none t d e =
    let whole : before_first is_point t ≡ t = ap (λ (n : ℕ). take n t) e ∙ take_all (length t) t (le_refl (length t)) in
    sym (ap (option_and_then within_limit) (no_parts (before_first is_point t) (after_first is_point t) (ap is_digits whole ∙ d)))
    ∙ size_parted t (before_first is_point t) (after_first is_point t) d refl refl

pub within : (n : ℕ) → n < 10 ^ 12 → within_limit (n * 1000000) ≡ Some (n * 1000000)
within n l = ap (λ (b : Bool). if b then Some (n * 1000000) else None) (less_than (n * 1000000) (10 ^ 18) (omega arith))

pub beyond : (n : ℕ) → 10 ^ 12 ≤ n → within_limit (n * 1000000) ≡ None
beyond n l = ap (λ (b : Bool). if b then Some (n * 1000000) else None) (not_less (n * 1000000) (10 ^ 18) (omega arith))

pub part_some : (ds : List ℕ) (n p : ℕ) → is_digits ds ≡ true → length ds ≤ 6 → Some n ≡ (if nat_lt (value_of ds) 1000000 then Some (value_of ds) else None) → p ≡ 10 ^ (6 - length ds) → n * p < 1000000
part_some ds n p d l h e =
    let same : Some n ≡ Some (value_of ds) = h ∙ part_read ds d l in
    let equal : n ≡ value_of ds = cc in rw equal (part_small ds p d l e)

pub whole_size : (t : List ℕ) → is_digits t ≡ true → (b : Bool) → nat_lt (value_of t) (10 ^ 12) ≡ b → option_map (λ n. n * 1000000) (if b then Some (value_of t) else None) ≡ dec_size t
whole_size t d true e = sym (size_whole t d ∙ within (value_of t) (by_less (value_of t) (10 ^ 12) e))
whole_size t d false e = sym (size_whole t d ∙ beyond (value_of t) (by_not_less (value_of t) (10 ^ 12) e))

pub whole_given : (t : List ℕ) (r : Option ℕ) → is_digits t ≡ true → r ≡ (if nat_lt (value_of t) (10 ^ 12) then Some (value_of t) else None) → option_map (λ n. n * 1000000) r ≡ dec_size t
whole_given t r d h = ap (option_map (λ n. n * 1000000)) h ∙ whole_size t d _ refl

-- a text that begins with no `-` is read as it is
unsigned_case : (byte : ℕ) (rest : List ℕ) (b : Bool) → (byte == 45) ≡ b → ((r : List ℕ) → byte ∷ rest ≢ 45 ∷ r) → (if b then option_map (λ size. neg_ℤ (pos size)) (dec_size rest) else option_map pos (dec_size (byte ∷ rest))) ≡ option_map pos (dec_size (byte ∷ rest))
unsigned_case byte rest true e h =
    let same : byte ≡ 45 = eqb-true byte 45 e in absurd (h rest (ap (λ (x : ℕ). x ∷ rest) same))
unsigned_case byte rest false e h = refl

pub unsigned_text : (t : List ℕ) → ((rest : List ℕ) → t ≢ 45 ∷ rest) → dec_of_text t ≡ option_map pos (dec_size t)
unfolding dec_size
unsigned_text [] h = refl
unsigned_text (byte ∷ rest) h = unsigned_case byte rest (byte == 45) refl h

-- a size below the limit is a decimal
small_is_dec : (n : ℕ) → n < 10 ^ 18 → IsDec (pos n)
small_is_dec n h = (grind (arith, ints), grind (arith, ints))

pub dec_made : (r : Option ℤ) (n : ℕ) (z : ℤ) → z ≡ pos n → n < 10 ^ 18 → SomeIff r (IsDec z) z → r ≡ Some (pos n)
dec_made None n z e l h = absurd (h (rw e (small_is_dec n l)))
dec_made (Some x) n z e l h = ap (λ (y : ℤ). Some y) (h.1 ∙ e)
