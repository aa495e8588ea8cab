-- Each operator and function gives a value of the type that its rule gives, or a missing one.
use Rattle.std.proofs.Common.{ℕ, zero, suc, ℤ, pos, negsuc, neg_ℤ, ◌+ℤ◌, Bool, true, false, not, ◌||◌, if◌then◌else◌, Option, Some, None, ◌≡◌, refl, sym, subst, List, int_lt}
use Rattle.std.specs.declared.cmp.Ordering.{Ordering}
use Rattle.scalar_value.specs.declared.value.Value.{Value}
use Rattle.scalar_value.specs.declared.value.Value.TheVariants as cell
use Rattle.scalar_value.specs.declared.value.ColType.{ColType}
use Rattle.scalar_value.specs.declared.value.ColType.TheVariants.{Int, Dec, Chr, Date, Lgl}
use Rattle.scalar_value.specs.declared.arithmetic.NumOp.{NumOp}
use Rattle.scalar_value.specs.declared.arithmetic.NumOp.TheVariants as op
use Rattle.scalar_value.specs.Numbers.{as_int, as_dec, is_int, is_dec, unless_zero, on_ints, on_decs}
use Rattle.scalar_value.specs.Order.{is_of_type, is_day, number_of}
use Rattle.scalar_value.specs.Truths.{is_missing, is_true, is_false}
use Rattle.scalar_fns.specs.Days.{day_plus}
use Rattle.na_expr.specs.Types.{joined, number_type, quotient_type, sum_type, difference_type, truths_type, texts_type, signed_type, truth_type, any_test_type, length_type, text_type, day_part_type, integer_type, decimal_type, any_text_type, is_kind, then_test, compared_type, carried_type, choice_type, both_tests, between_type, substr_type}
use Rattle.na_expr.specs.Operators.{negated, absolute, on_numbers, added, taken_away, compared, negation, both_true, either_true, between, carried, chosen, text_length, on_text, part_of, on_texts, on_day, to_integer, to_decimal, to_text, in_calendar, as_day}

-- a value of a type: it is missing, or of the variant of that type
pub data Typed : ColType → Value → Type 0 where
  missing : (t : ColType) → Typed t cell.Missing
  int : (z : ℤ) → Typed Int (cell.Int z)
  dec : (m : ℤ) → Typed Dec (cell.Dec m)
  chr : (t : List ℕ) → Typed Chr (cell.Chr t)
  day : (d : ℤ) → is_day d ≡ true → Typed Date (cell.Day d)
  lgl : (b : Bool) → Typed Lgl (cell.Lgl b)

pub typed_from : (t : ColType) (v : Value) → is_of_type t v ≡ true → Typed t v
typed_from t cell.Missing h = missing t
typed_from Int (cell.Int z) h = int z
typed_from Dec (cell.Dec m) h = dec m
typed_from Chr (cell.Chr t) h = chr t
typed_from Date (cell.Day d) h = day d h
typed_from Lgl (cell.Lgl b) h = lgl b
typed_from t v h = cc

pub is_typed : (t : ColType) (v : Value) → Typed t v → is_of_type t v ≡ true
is_typed Int v (missing t) = refl
is_typed Dec v (missing t) = refl
is_typed Chr v (missing t) = refl
is_typed Date v (missing t) = refl
is_typed Lgl v (missing t) = refl
is_typed t v (int z) = refl
is_typed t v (dec m) = refl
is_typed t v (chr x) = refl
is_typed t v (day d h) = h
is_typed t v (lgl b) = refl

-- a value of the type that a rule gives; anything where it gives none
abbrev pub Fits : Option ColType → Value → Type 0
Fits None v = Unit {0}
Fits (Some t) v = Typed t v

fits_missing : (o : Option ColType) → Fits o cell.Missing
fits_missing None = tt
fits_missing (Some t) = missing t

-- ---- results that are tested for their range

int_or_missing : (b : Bool) (z : ℤ) → Typed Int (if b then cell.Int z else cell.Missing)
int_or_missing true z = int z
int_or_missing false z = missing Int

dec_or_missing : (b : Bool) (m : ℤ) → Typed Dec (if b then cell.Dec m else cell.Missing)
dec_or_missing true m = dec m
dec_or_missing false m = missing Dec

an_int : (z : ℤ) → Typed Int (as_int z)
unfolding as_int
an_int z = int_or_missing (is_int z) z

a_dec : (m : ℤ) → Typed Dec (as_dec m)
unfolding as_dec
a_dec m = dec_or_missing (is_dec m) m

unless : (t : ColType) (b : ℤ) (v : Value) → Typed t v → Typed t (unless_zero b v)
unless t (pos n) v h = by_zero n where
  by_zero : (n : ℕ) → Typed t (unless_zero (pos n) v)
  by_zero zero = missing t
  by_zero (suc n) = h
unless t (negsuc n) v h = h

day_by : (b : Bool) (d : ℤ) → is_day d ≡ b → Typed Date (as_day (if b then Some d else None))
day_by true d h = day d h
day_by false d h = missing Date

a_day : (d n : ℤ) → Typed Date (as_day (day_plus d n))
a_day d n = day_by (is_day (d +ℤ n)) (d +ℤ n) refl

-- ---- numbers

-- the type of an operator on two whole numbers
pub int_type : NumOp → ColType
int_type op.Add = Int
int_type op.Sub = Int
int_type op.Mul = Int
int_type op.Div = Dec
int_type op.FloorDiv = Int
int_type op.Mod = Int

of_ints : (o : NumOp) (x y : ℤ) → Typed (int_type o) (on_ints o x y)
unfolding int_type
of_ints op.Add x y = an_int _
of_ints op.Sub x y = an_int _
of_ints op.Mul x y = an_int _
of_ints op.Div x y = unless Dec y _ (a_dec _)
of_ints op.FloorDiv x y = unless Int y _ (an_int _)
of_ints op.Mod x y = unless Int y _ (an_int _)

of_decs : (o : NumOp) (x y : ℤ) → Typed Dec (on_decs o x y)
of_decs op.Add x y = a_dec _
of_decs op.Sub x y = a_dec _
of_decs op.Mul x y = a_dec _
of_decs op.Div x y = unless Dec y _ (a_dec _)
of_decs op.FloorDiv x y = unless Dec y _ (a_dec _)
of_decs op.Mod x y = unless Dec y _ (a_dec _)

-- an operator on numbers that gives a whole number of two
abbrev pub IsWhole : NumOp → Type 0
IsWhole o = int_type o ≡ Int

whole_of_ints : (o : NumOp) (x y : ℤ) → IsWhole o → Typed Int (on_ints o x y)
whole_of_ints o x y h = let P : ColType → Type 0 = λ t. Typed t (on_ints o x y) in subst P h (of_ints o x y)

pub quotients : (a b : ColType) (v w : Value) → Typed a v → Typed b w → Fits (quotient_type a b) (on_numbers op.Div v w)
unfolding int_type
quotients a b v w (int x) (int y) = of_ints op.Div x y
quotients a b v w (int x) (dec y) = of_decs op.Div (number_of (cell.Int x)) y
quotients a b v w (dec x) (int y) = of_decs op.Div x (number_of (cell.Int y))
quotients a b v w (dec x) (dec y) = of_decs op.Div x y
quotients a b v w p q = fits_missing (quotient_type a b)

pub numbers : (o : NumOp) → IsWhole o → (a b : ColType) (v w : Value) → Typed a v → Typed b w → Fits (number_type a b) (on_numbers o v w)
numbers o h a b v w (int x) (int y) = whole_of_ints o x y h
numbers o h a b v w (int x) (dec y) = of_decs o (number_of (cell.Int x)) y
numbers o h a b v w (dec x) (int y) = of_decs o x (number_of (cell.Int y))
numbers o h a b v w (dec x) (dec y) = of_decs o x y
numbers o h a b v w p q = fits_missing (number_type a b)

pub product_whole : IsWhole op.Mul
unfolding int_type
product_whole = refl

pub floor_whole : IsWhole op.FloorDiv
unfolding int_type
floor_whole = refl

pub rest_whole : IsWhole op.Mod
unfolding int_type
rest_whole = refl

pub sums : (a b : ColType) (v w : Value) → Typed a v → Typed b w → Fits (sum_type a b) (added v w)
sums a b v w (int x) (int y) = an_int _
sums a b v w (int x) (dec y) = a_dec _
sums a b v w (dec x) (int y) = a_dec _
sums a b v w (dec x) (dec y) = a_dec _
sums a b v w (int x) (day d h) = a_day d x
sums a b v w (day d h) (int y) = a_day d y
sums a b v w p q = fits_missing (sum_type a b)

pub differences : (a b : ColType) (v w : Value) → Typed a v → Typed b w → Fits (difference_type a b) (taken_away v w)
differences a b v w (int x) (int y) = an_int _
differences a b v w (int x) (dec y) = a_dec _
differences a b v w (dec x) (int y) = a_dec _
differences a b v w (dec x) (dec y) = a_dec _
differences a b v w (day d h) (int y) = a_day d (neg_ℤ y)
differences a b v w (day d h) (day e k) = int _
differences a b v w p q = fits_missing (difference_type a b)

negative : (b : Bool) (z : ℤ) → Typed Int (if b then as_int (neg_ℤ z) else cell.Int z)
negative true z = an_int _
negative false z = int z

negative_dec : (b : Bool) (m : ℤ) → Typed Dec (if b then as_dec (neg_ℤ m) else cell.Dec m)
negative_dec true m = a_dec _
negative_dec false m = dec m

pub negatives : (a : ColType) (v : Value) → Typed a v → Fits (signed_type a) (negated v)
negatives a v (int z) = an_int _
negatives a v (dec m) = a_dec _
negatives a v p = fits_missing (signed_type a)

pub sizes : (a : ColType) (v : Value) → Typed a v → Fits (signed_type a) (absolute v)
sizes a v (int z) = negative (int_lt z (pos 0)) z
sizes a v (dec m) = negative_dec (int_lt m (pos 0)) m
sizes a v p = fits_missing (signed_type a)

-- ---- truth values

test_or_missing : (b : Bool) (t : Bool) → Typed Lgl (if b then cell.Missing else cell.Lgl t)
test_or_missing true t = missing Lgl
test_or_missing false t = lgl t

a_comparison : (test : Ordering → Bool) (v w : Value) → Typed Lgl (compared test v w)
a_comparison test v w = test_or_missing (is_missing v || is_missing w) _

then_lgl : (o : Option ColType) (v : Value) → Typed Lgl v → Fits (then_test o) v
then_lgl None v h = tt
then_lgl (Some t) v h = h

pub comparisons : (test : Ordering → Bool) (a b : ColType) (v w : Value) → Typed a v → Typed b w → Fits (compared_type a b) (compared test v w)
comparisons test a b v w p q = then_lgl (joined a b) _ (a_comparison test v w)

truth_else : (b : Bool) (t : Bool) (v : Value) → Typed Lgl v → Typed Lgl (if b then cell.Lgl t else v)
truth_else true t v h = lgl t
truth_else false t v h = h

a_conjunction : (v w : Value) → Typed Lgl (both_true v w)
a_conjunction v w = truth_else (is_false v || is_false w) false _ (test_or_missing (is_missing v || is_missing w) true)

a_disjunction : (v w : Value) → Typed Lgl (either_true v w)
a_disjunction v w = truth_else (is_true v || is_true w) true _ (test_or_missing (is_missing v || is_missing w) false)

of_truths : (a b : ColType) (v : Value) → Typed Lgl v → Fits (truths_type a b) v
of_truths Lgl b v h = with_lgl b v h where
  with_lgl : (b : ColType) (v : Value) → Typed Lgl v → Fits (truths_type Lgl b) v
  with_lgl Lgl v h = h
  with_lgl b v h = tt
of_truths Int b v h = none b where
  none : (b : ColType) → Fits (truths_type Int b) v
  none Lgl = tt
  none b = tt
of_truths Dec b v h = none b where
  none : (b : ColType) → Fits (truths_type Dec b) v
  none Lgl = tt
  none b = tt
of_truths Chr b v h = none b where
  none : (b : ColType) → Fits (truths_type Chr b) v
  none Lgl = tt
  none b = tt
of_truths Date b v h = none b where
  none : (b : ColType) → Fits (truths_type Date b) v
  none Lgl = tt
  none b = tt

pub conjunctions : (a b : ColType) (v w : Value) → Typed a v → Typed b w → Fits (truths_type a b) (both_true v w)
conjunctions a b v w p q = of_truths a b _ (a_conjunction v w)

pub disjunctions : (a b : ColType) (v w : Value) → Typed a v → Typed b w → Fits (truths_type a b) (either_true v w)
disjunctions a b v w p q = of_truths a b _ (a_disjunction v w)

pub opposites : (a : ColType) (v : Value) → Typed a v → Fits (truth_type a) (negation v)
opposites a v (lgl b) = lgl (not b)
opposites a v p = fits_missing (truth_type a)

pub any_tests : (a : ColType) (v : Value) → Typed a v → Fits (any_test_type a) (cell.Lgl (is_missing v))
any_tests Int v p = lgl _
any_tests Dec v p = lgl _
any_tests Chr v p = lgl _
any_tests Date v p = lgl _
any_tests Lgl v p = lgl _

both_lgl : (o p : Option ColType) (v : Value) → Typed Lgl v → Fits (both_tests o p) v
both_lgl None p v h = tt
both_lgl (Some t) None v h = tt
both_lgl (Some t) (Some u) v h = h

pub betweens : (a b c : ColType) (v w x : Value) → Typed a v → Typed b w → Typed c x → Fits (between_type a b c) (between v w x)
betweens a b c v w x p q r = both_lgl (joined a b) (joined a c) _ (a_conjunction _ _)

-- ---- texts and days

pub lengths : (a : ColType) (v : Value) → Typed a v → Fits (length_type a) (text_length v)
lengths a v (chr t) = an_int _
lengths a v p = fits_missing (length_type a)

pub texts : (f : List ℕ → List ℕ) (a : ColType) (v : Value) → Typed a v → Fits (text_type a) (on_text f v)
texts f a v (chr t) = chr (f t)
texts f a v p = fits_missing (text_type a)

pub text_tests : (test : List ℕ → List ℕ → Bool) (a b : ColType) (v w : Value) → Typed a v → Typed b w → Fits (texts_type a b) (on_texts test v w)
text_tests test a b v w (chr t) (chr u) = lgl _
text_tests test a b v w p q = fits_missing (texts_type a b)

pub parts_of_texts : (a b c : ColType) (v w x : Value) → Typed a v → Typed b w → Typed c x → Fits (substr_type a b c) (part_of v w x)
parts_of_texts a b c v w x (chr t) (int i) (int j) = chr _
parts_of_texts a b c v w x p q r = fits_missing (substr_type a b c)

pub parts_of_days : (part : ℤ → ℕ) (a : ColType) (v : Value) → Typed a v → Fits (day_part_type a) (on_day part v)
parts_of_days part a v (day d h) = int_or_missing (is_day d) (pos (part d))
parts_of_days part a v p = fits_missing (day_part_type a)

-- ---- changes of type

pub integers : (a : ColType) (v : Value) → Typed a v → Fits (integer_type a) (to_integer v)
integers a v (int z) = int z
integers a v (dec m) = an_int _
integers a v (lgl b) = int _
integers a v p = fits_missing (integer_type a)

pub decimals : (a : ColType) (v : Value) → Typed a v → Fits (decimal_type a) (to_decimal v)
decimals a v (int z) = a_dec _
decimals a v (dec m) = dec m
decimals a v p = fits_missing (decimal_type a)

text_or_missing : (b : Bool) (t : List ℕ) → Typed Chr (if b then cell.Missing else cell.Chr t)
text_or_missing true t = missing Chr
text_or_missing false t = chr t

some_text : (a : ColType) (v : Value) → Typed Chr v → Fits (any_text_type a) v
some_text Int v h = h
some_text Dec v h = h
some_text Chr v h = h
some_text Date v h = h
some_text Lgl v h = h

pub value_texts : (a : ColType) (v : Value) → Typed a v → Fits (any_text_type a) (to_text v)
value_texts a v p = some_text a _ (text_or_missing (is_missing (in_calendar v)) _)

-- ---- choices

-- a value of the first type becomes one of the second where it is chosen
unfoldable pub widens : ColType → ColType → Bool
widens Int Dec = true
widens a b = is_kind a b

pub widened : (a u : ColType) (v : Value) → widens a u ≡ true → Typed a v → Typed u (carried u v)
unfolding widens
widened a Int v h (missing t) = missing Int
widened a Dec v h (missing t) = missing Dec
widened a Chr v h (missing t) = missing Chr
widened a Date v h (missing t) = missing Date
widened a Lgl v h (missing t) = missing Lgl
widened a Int v h (int z) = int z
widened a Dec v h (int z) = a_dec _
widened a Dec v h (dec m) = dec m
widened a Chr v h (chr t) = chr t
widened a Date v h (day d k) = day d k
widened a Lgl v h (lgl b) = lgl b
widened a u v h p = cc

-- the type on which two agree is one that both become
pub joined_widens : (a b u : ColType) → joined a b ≡ Some u → (widens a u ≡ true) × (widens b u ≡ true)
unfolding widens
joined_widens Int Int u h = let e : Int ≡ u = cc in rw (← e) (refl, refl)
joined_widens Int Dec u h = let e : Dec ≡ u = cc in rw (← e) (refl, refl)
joined_widens Dec Int u h = let e : Dec ≡ u = cc in rw (← e) (refl, refl)
joined_widens Dec Dec u h = let e : Dec ≡ u = cc in rw (← e) (refl, refl)
joined_widens Chr Chr u h = let e : Chr ≡ u = cc in rw (← e) (refl, refl)
joined_widens Date Date u h = let e : Date ≡ u = cc in rw (← e) (refl, refl)
joined_widens Lgl Lgl u h = let e : Lgl ≡ u = cc in rw (← e) (refl, refl)
joined_widens a b u h = (cc, cc)

pub same_kind : (a b : ColType) → is_kind a b ≡ true → a ≡ b
same_kind Int Int h = refl
same_kind Dec Dec h = refl
same_kind Chr Chr h = refl
same_kind Date Date h = refl
same_kind Lgl Lgl h = refl
same_kind a b h = cc

-- a value that a choice carries, of a type that becomes the one on which the choice agrees
pub carries : (t : ColType) (o : Option ColType) (v : Value) → ((u : ColType) → o ≡ Some u → Typed u (carried u v)) → Fits (carried_type t o) (carried t v)
carries t None v h = tt
carries t (Some u) v h = by_test (is_kind t u) refl where
  by_test : (b : Bool) → is_kind t u ≡ b → Fits (if b then Some t else None) (carried t v)
  by_test true e = let P : ColType → Type 0 = λ x. Typed x (carried x v) in subst P (sym (same_kind t u e)) (h u refl)
  by_test false e = tt

one_of : (b c : Bool) (o : Option ColType) (v w : Value) → Fits o v → Fits o w → Fits o (if b then v else (if c then w else cell.Missing))
one_of true c o v w p q = p
one_of false true o v w p q = q
one_of false false o v w p q = fits_missing o

where_lgl : (b : Bool) (o : Option ColType) (v : Value) → Fits o v → Fits (if b then o else None) v
where_lgl true o v h = h
where_lgl false o v h = tt

pub choices : (t : ColType) (c a b : ColType) (x v w : Value) → Typed c x → Typed a v → Typed b w → Fits (choice_type t c a b) (chosen t x v w)
choices t c a b x v w p q r =
    where_lgl (is_kind c Lgl) (carried_type t (joined a b)) _
    (one_of (is_true x) (is_false x) (carried_type t (joined a b)) _ _ (carries t (joined a b) v (λ u h. widened a u v (joined_widens a b u h).0 q)) (carries t (joined a b) w (λ u h. widened b u w (joined_widens a b u h).1 r)))
