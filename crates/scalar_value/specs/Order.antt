-- The order of values, and which values a column of a type may hold.
use Rattle.std.specs.Prelude.{◌≡◌, ℕ, ℤ, pos, neg_ℤ, ◌*ℤ◌, ◌≤ℤ◌, Bool, true, false, cond, ◌&&◌, ◌++◌, List, [], int_lt, not}
use Rattle.std.specs.declared.cmp.Ordering.{Ordering}
use Rattle.std.specs.Ordering.{nat_cmp, int_cmp, on, then_cmp, eq_by_cmp}
use Rattle.std.specs.Cmp.Lexicographic.{slice_cmp}
use Rattle.std.specs.Hash as fed
use Rattle.scalar_value.specs.declared.value.Value.{Value}
use Rattle.scalar_value.specs.declared.value.Value.TheVariants.{Missing, Int, Dec, Chr, Day, Lgl}
use Rattle.scalar_value.specs.declared.value.ColType.{ColType}
use Rattle.scalar_value.specs.declared.value.ColType.TheVariants as kind

-- where a value stands among values of other types: Missing after all
abbrev pub value_rank : Value → ℕ
value_rank (Int z) = 0
value_rank (Dec m) = 1
value_rank (Chr t) = 2
value_rank (Day d) = 3
value_rank (Lgl b) = 4
value_rank Missing = 5

abbrev pub truth_number : Bool → ℤ
truth_number true = pos 1
truth_number false = pos 0

-- what orders the values of one type, but for texts
abbrev pub value_number : Value → ℤ
value_number (Int z) = z
value_number (Dec m) = m
value_number (Chr t) = pos 0
value_number (Day d) = d
value_number (Lgl b) = truth_number b
value_number Missing = pos 0

abbrev pub value_text : Value → List ℕ
value_text (Int z) = []
value_text (Dec m) = []
value_text (Chr t) = t
value_text (Day d) = []
value_text (Lgl b) = []
value_text Missing = []

-- by type, then by number, day or truth, then by the bytes of texts
abbrev pub value_cmp : Value → Value → Ordering
value_cmp = then_cmp (on value_rank nat_cmp) (then_cmp (on value_number int_cmp) (on value_text (slice_cmp nat_cmp)))

abbrev pub value_same : Value → Value → Bool
value_same = eq_by_cmp value_cmp

-- what a value feeds a hasher: its rank and then what orders it
abbrev pub value_hash : Value → fed.HashWrites
value_hash (Int z) = fed.u8 0 ++ fed.i64 z
value_hash (Dec m) = fed.u8 1 ++ fed.i64 m
value_hash (Chr t) = fed.u8 2 ++ fed.str t
value_hash (Day d) = fed.u8 3 ++ fed.i32 d
value_hash (Lgl b) = fed.u8 4 ++ fed.bool b
value_hash Missing = fed.u8 5

abbrev pub IsNumber : Value → Type 0
IsNumber (Int z) = Unit {0}
IsNumber (Dec m) = Unit {0}
IsNumber (Chr t) = ⊥
IsNumber (Day d) = ⊥
IsNumber (Lgl b) = ⊥
IsNumber Missing = ⊥

-- the exact number that a whole number or a decimal stands for, in millionths
abbrev pub number_of : Value → ℤ
number_of (Int z) = z *ℤ pos 1000000
number_of (Dec m) = m
number_of (Chr t) = pos 0
number_of (Day d) = pos 0
number_of (Lgl b) = pos 0
number_of Missing = pos 0

-- a day of the calendar from 0000-01-01 to 9999-12-31, counted from 1970-01-01
abbrev pub is_day : ℤ → Bool
is_day d = not (int_lt d (neg_ℤ (pos 719528))) && not (int_lt (pos 2932896) d)

-- whether a column of this type may hold the value
abbrev pub is_of_type : ColType → Value → Bool
is_of_type k Missing = true
is_of_type kind.Int (Int z) = true
is_of_type kind.Int (Dec m) = false
is_of_type kind.Int (Chr t) = false
is_of_type kind.Int (Day d) = false
is_of_type kind.Int (Lgl b) = false
is_of_type kind.Dec (Int z) = false
is_of_type kind.Dec (Dec m) = true
is_of_type kind.Dec (Chr t) = false
is_of_type kind.Dec (Day d) = false
is_of_type kind.Dec (Lgl b) = false
is_of_type kind.Chr (Int z) = false
is_of_type kind.Chr (Dec m) = false
is_of_type kind.Chr (Chr t) = true
is_of_type kind.Chr (Day d) = false
is_of_type kind.Chr (Lgl b) = false
is_of_type kind.Date (Int z) = false
is_of_type kind.Date (Dec m) = false
is_of_type kind.Date (Chr t) = false
is_of_type kind.Date (Day d) = is_day d
is_of_type kind.Date (Lgl b) = false
is_of_type kind.Lgl (Int z) = false
is_of_type kind.Lgl (Dec m) = false
is_of_type kind.Lgl (Chr t) = false
is_of_type kind.Lgl (Day d) = false
is_of_type kind.Lgl (Lgl b) = true
