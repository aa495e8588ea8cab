-- The text of a value is read as that value in a column of its type.
use Rattle.std.proofs.Common.{◌≡◌, ◌==◌, ℕ, suc, ◌/◌, ◌%◌, ◌<◌, ◌^◌, Bool, true, false, if◌then◌else◌, List, [], ◌∷◌, ◌++◌, length, Some, None, refl, sym, ap, ◌∙◌, arith, ℤ, pos, negsuc, codes, decimal}
use Rattle.std.specs.Prelude.{nat_eq}
use Rattle.std.specs.Char.{is_ascii_digit}
use Rattle.std.specs.Cmp.Lexicographic.{bytes_decides}
use Rattle.std.specs.Fmt.{signed_decimal}
use Rattle.std.specs.List.{list_all, starts_with}
use Rattle.std.specs.Str.{IsAscii, IsUtf8, bytes_eq}
use Rattle.std.proofs.lemmas.Bool.{and_parts, false_from_ne_true, ne_eqb}
use Rattle.std.proofs.lemmas.Bool.Decides.{nat_tests}
use Rattle.std.proofs.lemmas.Fmt.{digits_decimal, digits_value-decimal, decimal_nonempty, IsAscii-signed}
use Rattle.std.proofs.lemmas.Int.{ints}
use Rattle.std.proofs.Math.Utf8.{encode}
use Rattle.std.proofs.lemmas.List.{append-nil}
use Rattle.std.proofs.lemmas.Str.{IsUtf8-from_ascii}
use Rattle.scalar_value.specs.declared.value.Value.{Value}
use Rattle.scalar_value.specs.declared.value.Value.TheVariants.{Missing, Int, Dec, Chr, Day, Lgl}
use Rattle.scalar_value.specs.declared.value.ColType.{ColType}
use Rattle.scalar_value.specs.declared.value.ColType.TheVariants as kind
use Rattle.scalar_value.specs.Decimals.{value_of}
use Rattle.scalar_value.specs.Numbers.{is_int, is_dec}
use Rattle.scalar_value.specs.Order.{is_of_type}
use Rattle.scalar_value.proofs.Digits.{own}
use Rattle.scalar_fns.specs.Days.{year_of}
use Rattle.scalar_fns.specs.Written.{last_digit, dec_text, day_text, part_text, written}
use Rattle.csv_source.specs.Fields.{digits_of_text, int_of_text, truth_of_text, is_missing_text, value_of_field, value_of_text, within_int}
use Rattle.table_round_trip.specs.RoundTrip.{IsPlain}
use Rattle.table_round_trip.proofs.DayTexts.{day_back, day_ascii}
use Rattle.table_round_trip.proofs.DecTexts.{and-false, whole_digits, positive_size, dec_back, dec_ascii}

-- ---- whole numbers

digits_back : (n : ℕ) → n < 2 ^ 64 → digits_of_text (decimal n) ≡ Some n
unfolding digits_of_text
digits_back n fits = ap (λ (b : Bool). if b then Some (value_of (decimal n)) else None) (whole_digits n fits) ∙ ap Some (digits_value-decimal own n fits)

no_minus : (ds : List ℕ) → list_all is_ascii_digit ds ≡ true → starts_with nat_eq ds (codes "-") ≡ false
no_minus [] h = refl
no_minus (d ∷ ds) h =
    let digit = (and_parts (is_ascii_digit d) (list_all is_ascii_digit ds) h).0 in
    let other : nat_eq 45 d ≡ false = grind (arith, nat_tests) in rw other refl

positive_fits : (n : ℕ) → is_int (pos n) ≡ true → n < 2 ^ 63
positive_fits n h = grind (arith, ints)

negative_fits : (n : ℕ) → is_int (negsuc n) ≡ true → n < 2 ^ 63
negative_fits n h = grind (arith, ints)

in_range : (z : ℤ) → is_int z ≡ true → within_int z ≡ Some z
in_range z h = ap (λ (b : Bool). if b then Some z else None) h

int_back : (z : ℤ) → is_int z ≡ true → int_of_text (signed_decimal z) ≡ Some z
unfolding int_of_text
int_back (pos n) h =
    let small : n < 2 ^ 63 = positive_fits n h in
    let fits : n < 2 ^ 64 = omega arith in
    rw (no_minus (decimal n) (digits_decimal own n fits), digits_back n fits) (in_range (pos n) h)
int_back (negsuc n) h =
    let small : n < 2 ^ 63 = negative_fits n h in
    let fits : suc n < 2 ^ 64 = omega arith in
    rw (digits_back (suc n) fits) (in_range (negsuc n) h)

int_ascii : (z : ℤ) → is_int z ≡ true → IsAscii (signed_decimal z)
int_ascii (pos n) h = IsAscii-signed (pos n) (positive_fits n h)
int_ascii (negsuc n) h = IsAscii-signed (negsuc n) (negative_fits n h)

-- ---- a text that is not of a missing value

no_length : (n : ℕ) → (suc n == 0) ≡ false
no_length n = ne_eqb (suc n) 0 (λ z. cc z)

there : (k : ColType) (c : ℕ) (rest : List ℕ) → (c == 78) ≡ false → is_missing_text k (c ∷ rest) ≡ false
unfolding is_missing_text
there k c rest other = rw (other, no_length (length rest)) refl

digit_there : (k : ColType) (ds more : List ℕ) → list_all is_ascii_digit ds ≡ true → 0 < length ds → is_missing_text k (ds ++ more) ≡ false
digit_there k [] more h some = absurd (omega (arith, some))
digit_there k (d ∷ ds) more h some =
    let digit = (and_parts (is_ascii_digit d) (list_all is_ascii_digit ds) h).0 in
    there k d (ds ++ more) (grind (arith, nat_tests))

decimal_there : (k : ColType) (n : ℕ) (more : List ℕ) → n < 2 ^ 64 → is_missing_text k (decimal n ++ more) ≡ false
decimal_there k n more fits = digit_there k (decimal n) more (digits_decimal own n fits) (decimal_nonempty n fits)

int_there : (k : ColType) (z : ℤ) → is_int z ≡ true → is_missing_text k (signed_decimal z) ≡ false
int_there k (pos n) h = let small = positive_fits n h in ap (is_missing_text k) (sym (append-nil (decimal n))) ∙ decimal_there k n [] (omega (arith, small))
int_there k (negsuc n) h = there k 45 (decimal (suc n)) refl

dec_there : (k : ColType) (m : ℤ) → is_dec m ≡ true → is_missing_text k (dec_text m) ≡ false
unfolding dec_text
dec_there k (pos n) h = let high = positive_size n h in decimal_there k (n / 1000000) (part_text (n % 1000000)) (omega arith)
dec_there k (negsuc n) h = there k 45 (decimal (suc n / 1000000) ++ part_text (suc n % 1000000)) refl

digit_other : (n : ℕ) → (last_digit n == 78) ≡ false
digit_other n = grind (arith, nat_tests)

day_there : (k : ColType) (day : ℤ) → is_missing_text k (day_text day) ≡ false
unfolding day_text
day_there k day = there k (last_digit (year_of day / 100 / 10)) _ (digit_other (year_of day / 100 / 10))

text_there : (text : List ℕ) → (text ≡ codes "NA" → ⊥) → is_missing_text kind.Chr text ≡ false
unfolding is_missing_text
text_there text n =
    let other : bytes_eq text (codes "NA") ≡ false = false_from_ne_true (bytes_eq text (codes "NA")) (λ e. n ((bytes_decides text (codes "NA")).0 e)) in
    rw other (and-false (length text == 0) false refl)

-- ---- the value

given : (k : ColType) (text : List ℕ) (v : Value) → is_missing_text k text ≡ false → value_of_text k text ≡ Some v → value_of_field k text ≡ Some v
unfolding value_of_field
given k text v there h = ap (λ (b : Bool). if b then Some Missing else value_of_text k text) there ∙ h

missing_back : (k : ColType) → value_of_field k (codes "NA") ≡ Some Missing
unfolding value_of_field is_missing_text
missing_back k = refl

pub value_back : (k : ColType) (v : Value) → is_of_type k v ≡ true → IsPlain v → value_of_field k (written v) ≡ Some v
unfolding value_of_text truth_of_text
value_back k Missing h p = missing_back k
value_back kind.Int (Int z) h p = given kind.Int (signed_decimal z) (Int z) (int_there kind.Int z p) (rw (int_back z p) refl)
value_back kind.Dec (Dec m) h p = given kind.Dec (dec_text m) (Dec m) (dec_there kind.Dec m p) (rw (dec_back m p) refl)
value_back kind.Chr (Chr t) h p = given kind.Chr t (Chr t) (text_there t p.1) refl
value_back kind.Date (Day d) h p = given kind.Date (day_text d) (Day d) (day_there kind.Date d) (rw (day_back d h) refl)
value_back kind.Lgl (Lgl true) h p = given kind.Lgl (codes "TRUE") (Lgl true) (there kind.Lgl 84 (codes "RUE") refl) refl
value_back kind.Lgl (Lgl false) h p = given kind.Lgl (codes "FALSE") (Lgl false) (there kind.Lgl 70 (codes "ALSE") refl) refl
value_back k v h p = cc h

-- ---- and is text

pub value_utf8 : (v : Value) → IsPlain v → IsUtf8 (written v)
unfolding encode
value_utf8 Missing p = (codes "NA", (refl, refl))
value_utf8 (Int z) p = IsUtf8-from_ascii (signed_decimal z) (int_ascii z p)
value_utf8 (Dec m) p = IsUtf8-from_ascii (dec_text m) (dec_ascii m p)
value_utf8 (Chr t) p = p.0
value_utf8 (Day d) p = IsUtf8-from_ascii (day_text d) (day_ascii d)
value_utf8 (Lgl true) p = (codes "TRUE", (refl, refl))
value_utf8 (Lgl false) p = (codes "FALSE", (refl, refl))
