-- The values of the operators and row functions on values. Where not said otherwise a missing operand gives a missing value,
-- and so does an operand of a type that the operator does not take.
use Rattle.std.specs.Prelude.{ℕ, ℤ, pos, neg_ℤ, ◌-ℤ◌, int_lt, int_div, Bool, true, false, not, ◌||◌, ◌&&◌, if◌then◌else◌, Option, List, [], ◌∷◌, find, unwrap_or}
use Rattle.std.specs.Option.{option_map_or}
use Rattle.std.specs.List.{list_any, flat_map}
use Rattle.std.specs.Ordering.{int_cmp, is_eq, is_le, is_ge}
use Rattle.std.specs.declared.cmp.Ordering.{Ordering}
use Rattle.scalar_value.specs.declared.value.Value.{Value}
use Rattle.scalar_value.specs.declared.value.Value.TheVariants.{Missing, Int, Dec, Chr, Day, Lgl}
use Rattle.scalar_value.specs.declared.value.ColType.{ColType}
use Rattle.scalar_value.specs.declared.value.ColType.TheVariants as type
use Rattle.scalar_value.specs.declared.arithmetic.NumOp.{NumOp}
use Rattle.scalar_value.specs.declared.arithmetic.NumOp.TheVariants as op
use Rattle.scalar_value.specs.Decimals.{million}
use Rattle.scalar_value.specs.Numbers.{as_int, as_dec, num_value}
use Rattle.scalar_value.specs.Order.{number_of, value_cmp, is_day, truth_number}
use Rattle.scalar_value.specs.Truths.{is_missing, is_there, is_true, is_false}
use Rattle.scalar_fns.specs.Days.{day_plus}
use Rattle.scalar_fns.specs.Texts.{char_count, part_of_text}
use Rattle.scalar_fns.specs.Written.{written, is_value}

-- ---- numbers and days

abbrev pub negated : Value → Value
negated (Int z) = as_int (neg_ℤ z)
negated (Dec m) = as_dec (neg_ℤ m)
negated (Chr t) = Missing
negated (Day d) = Missing
negated (Lgl b) = Missing
negated Missing = Missing

-- the negative of a number below 0, and any other number itself
abbrev pub absolute : Value → Value
absolute (Int z) = if int_lt z (pos 0) then as_int (neg_ℤ z) else Int z
absolute (Dec m) = if int_lt m (pos 0) then as_dec (neg_ℤ m) else Dec m
absolute (Chr t) = Missing
absolute (Day d) = Missing
absolute (Lgl b) = Missing
absolute Missing = Missing

-- a day, or a missing value out of the calendar
abbrev pub as_day : Option ℤ → Value
as_day day = option_map_or (λ d. Day d) day Missing

abbrev pub is_number : Value → Bool
is_number (Int z) = true
is_number (Dec m) = true
is_number (Chr t) = false
is_number (Day d) = false
is_number (Lgl b) = false
is_number Missing = false

-- an operator on two numbers
abbrev pub on_numbers : NumOp → Value → Value → Value
on_numbers o a b = if is_number a && is_number b then num_value o a b else Missing

-- `+`: of a day and a whole number the day so many days later, else the sum
abbrev pub added : Value → Value → Value
added (Day d) (Int n) = as_day (day_plus d n)
added (Int n) (Day d) = as_day (day_plus d n)
added a b = on_numbers op.Add a b

-- `-`: of a day and a whole number the day so many days before, of two days the days between, else the difference
abbrev pub taken_away : Value → Value → Value
taken_away (Day d) (Int n) = as_day (day_plus d (neg_ℤ n))
taken_away (Day d) (Day e) = Int (d -ℤ e)
taken_away a b = on_numbers op.Sub a b

-- ---- comparison

-- the order of two values: numbers by their exact size, others in the order of values
abbrev pub order_of : Value → Value → Ordering
order_of a b = if is_number a && is_number b then int_cmp (number_of a) (number_of b) else value_cmp a b

abbrev pub compared : (Ordering → Bool) → Value → Value → Value
compared test a b = if is_missing a || is_missing b then Missing else Lgl (test (order_of a b))

-- whether two values are equal, a missing one to a missing one alone
abbrev pub is_same : Value → Value → Bool
is_same a b = is_eq (order_of a b)

-- ---- logic of three values

abbrev pub negation : Value → Value
negation (Int z) = Missing
negation (Dec m) = Missing
negation (Chr t) = Missing
negation (Day d) = Missing
negation (Lgl b) = Lgl (not b)
negation Missing = Missing

-- FALSE where a side is FALSE, else missing where a side is missing, else TRUE
abbrev pub both_true : Value → Value → Value
both_true a b = if is_false a || is_false b then Lgl false else (if is_missing a || is_missing b then Missing else Lgl true)

-- TRUE where a side is TRUE, else missing where a side is missing, else FALSE
abbrev pub either_true : Value → Value → Value
either_true a b = if is_true a || is_true b then Lgl true else (if is_missing a || is_missing b then Missing else Lgl false)

-- `x %in% c(..)`: whether one of the literals equals x; never missing
abbrev pub among : List Value → Value
among [] = Lgl false
among (x ∷ literals) = Lgl (list_any (is_same x) literals)

-- `between(x, a, b)` is `x >= a & x <= b`
abbrev pub between : Value → Value → Value → Value
between x a b = both_true (compared is_ge x a) (compared is_le x b)

-- ---- choices

-- a chosen value as one of the type that the choice has: a whole number becomes the decimal of the same number
abbrev pub carried : ColType → Value → Value
carried type.Int v = v
carried type.Dec (Int z) = as_dec (number_of (Int z))
carried type.Dec (Dec m) = Dec m
carried type.Dec (Chr t) = Chr t
carried type.Dec (Day d) = Day d
carried type.Dec (Lgl b) = Lgl b
carried type.Dec Missing = Missing
carried type.Chr v = v
carried type.Date v = v
carried type.Lgl v = v

-- `if_else(c, a, b)`
abbrev pub chosen : ColType → Value → Value → Value → Value
chosen t c a b = if is_true c then carried t a else (if is_false c then carried t b else Missing)

-- `case_when(c ~ v, .., .default = d)`: the value behind the first condition that is TRUE, else the default
abbrev pub first_case : ColType → List Value → Value
first_case t [] = Missing
first_case t (d ∷ []) = carried t d
first_case t (c ∷ v ∷ rest) = if is_true c then carried t v else first_case t rest

-- `coalesce(a, ..)`: the first that is not missing
abbrev pub first_there : List Value → Value
first_there vs = unwrap_or (find is_there vs) Missing

-- ---- texts

abbrev pub text_length : Value → Value
text_length (Int z) = Missing
text_length (Dec m) = Missing
text_length (Chr t) = as_int (pos (char_count t))
text_length (Day d) = Missing
text_length (Lgl b) = Missing
text_length Missing = Missing

-- a function from texts to texts
abbrev pub on_text : (List ℕ → List ℕ) → Value → Value
on_text f (Int z) = Missing
on_text f (Dec m) = Missing
on_text f (Chr t) = Chr (f t)
on_text f (Day d) = Missing
on_text f (Lgl b) = Missing
on_text f Missing = Missing

abbrev pub part_of : Value → Value → Value → Value
part_of (Chr t) (Int a) (Int b) = Chr (part_of_text t a b)
part_of v a b = Missing

-- a test on two texts
abbrev pub on_texts : (List ℕ → List ℕ → Bool) → Value → Value → Value
on_texts test (Chr t) (Chr p) = Lgl (test t p)
on_texts test v w = Missing

-- the value, where a day that the calendar does not have counts as missing
abbrev pub in_calendar : Value → Value
in_calendar v = if is_value v then v else Missing

-- the value texts one behind the other
abbrev pub pasted : List Value → Value
pasted vs = Chr (flat_map (λ v. written (in_calendar v)) vs)

-- ---- parts of days, and changes of type

-- a part of a day of the calendar
abbrev pub on_day : (ℤ → ℕ) → Value → Value
on_day part (Int z) = Missing
on_day part (Dec m) = Missing
on_day part (Chr t) = Missing
on_day part (Day d) = if is_day d then Int (pos (part d)) else Missing
on_day part (Lgl b) = Missing
on_day part Missing = Missing

-- a decimal is cut towards zero, and a truth value is 0 or 1
abbrev pub to_integer : Value → Value
to_integer (Int z) = Int z
to_integer (Dec m) = as_int (int_div m million)
to_integer (Chr t) = Missing
to_integer (Day d) = Missing
to_integer (Lgl b) = Int (truth_number b)
to_integer Missing = Missing

abbrev pub to_decimal : Value → Value
to_decimal (Int z) = as_dec (number_of (Int z))
to_decimal (Dec m) = Dec m
to_decimal (Chr t) = Missing
to_decimal (Day d) = Missing
to_decimal (Lgl b) = Missing
to_decimal Missing = Missing

abbrev pub to_text : Value → Value
to_text v = if is_missing (in_calendar v) then Missing else Chr (written (in_calendar v))
