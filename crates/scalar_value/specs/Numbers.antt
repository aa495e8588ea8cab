-- Arithmetic on whole numbers and decimals: exact results, rounded once, and a missing value where the result leaves its range.
use Rattle.std.specs.Prelude.{◌≡◌, ◌≢◌, ◌⊎◌, ◌<◌, ◌≤◌, ◌≤ℤ◌, ◌<ℤ◌, ℕ, zero, suc, ◌+◌, ◌-◌, ◌*◌, ◌/◌, ◌%◌, ◌^◌, ◌==◌, ℤ, pos, negsuc, neg_ℤ, ◌+ℤ◌, ◌-ℤ◌, ◌*ℤ◌, unsigned_abs, int_lt, int_le, nat_lt, Bool, true, false, cond, ◌&&◌, not, if◌then◌else◌}
use Rattle.std.specs.Bool.{beq}
use Rattle.std.specs.Int.{div_ceil}
use Rattle.scalar_value.specs.declared.value.Value.{Value}
use Rattle.scalar_value.specs.declared.value.Value.TheVariants.{Missing, Int, Dec, Chr, Day, Lgl}
use Rattle.scalar_value.specs.declared.arithmetic.NumOp.{NumOp}
use Rattle.scalar_value.specs.declared.arithmetic.NumOp.TheVariants.{Add, Sub, Mul, FloorDiv, Mod}
use Rattle.scalar_value.specs.declared.arithmetic.NumOp.TheVariants as op
use Rattle.scalar_value.specs.Decimals.{dec_limit, million}
use Rattle.scalar_value.specs.Order.{number_of}

-- ---- division, at a divisor that is not 0

-- n, or -n where the flag is set
abbrev pub with_sign : Bool → ℕ → ℤ
with_sign true n = neg_ℤ (pos n)
with_sign false n = pos n

abbrev pub below_zero : ℤ → Bool
below_zero (pos n) = false
below_zero (negsuc n) = true

-- whether exactly one of the two numbers is below 0
abbrev pub signs_differ : ℤ → ℤ → Bool
signs_differ a b = not (beq (below_zero a) (below_zero b))

-- the whole number nearest to a / b; of two equally near ones the greater
abbrev pub half_size : ℕ → ℕ → ℕ
half_size a b = if nat_lt (2 * (a % b)) b then a / b else a / b + 1

-- the whole number nearest to a / b; of two equally near ones the one farther from zero
unfoldable pub half : ℤ → ℤ → ℤ
half a b = with_sign (signs_differ a b) (half_size (unsigned_abs a) (unsigned_abs b))

-- the size of a quotient that is rounded down: up where it is below 0
abbrev pub floor_size : Bool → ℕ → ℕ → ℕ
floor_size true a b = div_ceil a b
floor_size false a b = a / b

-- the greatest whole number that is not above a / b
unfoldable pub floor_div : ℤ → ℤ → ℤ
floor_div a b = with_sign (signs_differ a b) (floor_size (signs_differ a b) (unsigned_abs a) (unsigned_abs b))

-- the size of what that quotient leaves
abbrev pub rest_size : Bool → ℕ → ℕ → ℕ
rest_size true a b = (b - a % b) % b
rest_size false a b = a % b

-- what that quotient leaves of a
abbrev pub floor_rest : ℤ → ℤ → ℤ
floor_rest a b = a -ℤ b *ℤ floor_div a b

-- ---- results, tested for their range once

abbrev pub is_int : ℤ → Bool
is_int z = int_le (neg_ℤ (pos (2 ^ 63))) z && int_lt z (pos (2 ^ 63))

abbrev pub is_dec : ℤ → Bool
is_dec millionths = int_le (neg_ℤ dec_limit) millionths && int_le millionths dec_limit

-- the whole number, or a missing value out of range
unfoldable pub as_int : ℤ → Value
as_int z = if is_int z then Int z else Missing

-- the decimal of so many millionths, or a missing value out of range
unfoldable pub as_dec : ℤ → Value
as_dec millionths = if is_dec millionths then Dec millionths else Missing

-- the value, but a missing value for the divisor 0
abbrev pub unless_zero : ℤ → Value → Value
unless_zero (pos zero) v = Missing
unless_zero (pos (suc n)) v = v
unless_zero (negsuc n) v = v

-- ---- the six operators

-- on two whole numbers
abbrev pub on_ints : NumOp → ℤ → ℤ → Value
on_ints Add x y = as_int (x +ℤ y)
on_ints Sub x y = as_int (x -ℤ y)
on_ints Mul x y = as_int (x *ℤ y)
on_ints op.Div x y = unless_zero y (as_dec (half (x *ℤ million) y))
on_ints FloorDiv x y = unless_zero y (as_int (floor_div x y))
on_ints Mod x y = unless_zero y (as_int (floor_rest x y))

-- on two numbers in millionths
abbrev pub on_decs : NumOp → ℤ → ℤ → Value
on_decs Add x y = as_dec (x +ℤ y)
on_decs Sub x y = as_dec (x -ℤ y)
on_decs Mul x y = as_dec (half (x *ℤ y) million)
on_decs op.Div x y = unless_zero y (as_dec (half (x *ℤ million) y))
on_decs FloorDiv x y = unless_zero y (as_dec (floor_div x y *ℤ million))
on_decs Mod x y = unless_zero y (as_dec (floor_rest x y))

-- two whole numbers give a whole number, but for `/`; with a decimal both count in millionths; a missing side gives a missing value
abbrev pub num_value : NumOp → Value → Value → Value
num_value o (Int x) (Int y) = on_ints o x y
num_value o (Int x) (Dec y) = on_decs o (number_of (Int x)) y
num_value o (Dec x) (Int y) = on_decs o x (number_of (Int y))
num_value o (Dec x) (Dec y) = on_decs o x y
num_value o a b = Missing

abbrev pub IsNumberOrMissing : Value → Type 0
IsNumberOrMissing (Int z) = Unit {0}
IsNumberOrMissing (Dec m) = Unit {0}
IsNumberOrMissing (Chr t) = ⊥
IsNumberOrMissing (Day d) = ⊥
IsNumberOrMissing (Lgl b) = ⊥
IsNumberOrMissing Missing = Unit {0}

-- every operator but the product
abbrev pub IsNoProduct : NumOp → Type 0
IsNoProduct Add = Unit {0}
IsNoProduct Sub = Unit {0}
IsNoProduct Mul = ⊥
IsNoProduct op.Div = Unit {0}
IsNoProduct FloorDiv = Unit {0}
IsNoProduct Mod = Unit {0}

-- ---- what rounding means

-- how far so many times the divisor is from a number
abbrev pub gap_of : ℤ → ℤ → ℤ → ℕ
gap_of a b q = unsigned_abs (a -ℤ q *ℤ b)

-- q is a whole number nearest to a / b: it is at most half a divisor away; where it is just that far, as another one is too,
-- it lies farther from zero than a / b
abbrev pub IsNearest : ℤ → ℤ → ℤ → Type 0
IsNearest a b q = (2 * gap_of a b q ≤ unsigned_abs b) × (2 * gap_of a b q ≡ unsigned_abs b → unsigned_abs a < unsigned_abs q * unsigned_abs b)

-- what is left of a is not negative and below the divisor, or not positive and above it where the divisor is negative
abbrev pub IsRoundedDown : ℤ → ℤ → ℤ → Type 0
IsRoundedDown a b q =
    ((pos 0 ≤ℤ (a -ℤ b *ℤ q)) × ((a -ℤ b *ℤ q) <ℤ b)) ⊎ (((a -ℤ b *ℤ q) ≤ℤ pos 0) × (b <ℤ (a -ℤ b *ℤ q)))

-- the laws of the two roundings
abbrev pub HalfIsNearest : Type 0
HalfIsNearest = (a b : ℤ) → b ≢ pos 0 → IsNearest a b (half a b)

abbrev pub FloorIsRoundedDown : Type 0
FloorIsRoundedDown = (a b : ℤ) → b ≢ pos 0 → IsRoundedDown a b (floor_div a b)
