-- Lists of values: which are missing, their sums, and how many of them are smaller or different.
use Rattle.std.specs.Prelude.{ℤ, pos, ◌+ℤ◌, Bool, true, false, not, if◌then◌else◌, List, [], ◌∷◌, find, unwrap_or}
use Rattle.std.specs.List.{list_any, list_all}
use Rattle.std.specs.Ordering.{is_lt}
use Rattle.scalar_value.specs.declared.value.Value.{Value}
use Rattle.scalar_value.specs.declared.value.Value.TheVariants.{Missing, Int, Dec, Chr, Day, Lgl}
use Rattle.scalar_value.specs.Truths.{is_missing}
use Rattle.scalar_value.specs.Order.{value_cmp, value_same, truth_number}

-- a missing value where the list has one, else this value
abbrev pub unless_missing : List Value → Value → Value
unless_missing vs v = if list_any is_missing vs then Missing else v

-- ---- sums

-- the whole number that a value stands for; TRUE is 1, and of a decimal the millionths are counted
abbrev pub summed_number : Value → ℤ
summed_number (Int z) = z
summed_number (Dec m) = m
summed_number (Chr t) = pos 0
summed_number (Day d) = pos 0
summed_number (Lgl b) = truth_number b
summed_number Missing = pos 0

-- the exact sum of whole numbers of any size
abbrev pub sum_of : List ℤ → ℤ
sum_of [] = pos 0
sum_of (z ∷ zs) = z +ℤ sum_of zs

-- ---- order

-- whether the first of two values is smaller
abbrev pub is_less : Value → Value → Bool
is_less a b = is_lt (value_cmp a b)

-- whether a value comes before another: the smaller one, or the greater one where the order is descending
abbrev pub comes_before : Bool → Value → Value → Bool
comes_before false a b = is_less a b
comes_before true a b = is_less b a

-- the first value before which none of the list comes, and a missing value of nothing
abbrev pub foremost : Bool → List Value → Value
foremost descending vs = unwrap_or (find (λ v. list_all (λ w. not (comes_before descending w v)) vs) vs) Missing

-- ---- different values

-- the list with each value once, missing ones being one value
abbrev pub each_once : List Value → List Value
each_once [] = []
each_once (v ∷ vs) = if list_any (value_same v) vs then each_once vs else v ∷ each_once vs
