-- The aggregates, each as a statement on the whole list of its values.
use Rattle.std.specs.Prelude.{ℕ, ◌^◌, ◌-◌, ℤ, pos, ◌*ℤ◌, Bool, true, false, nat_lt, if◌then◌else◌, Option, Some, None, List, [], ◌∷◌, length, filter, map, slice_get, unwrap_or}
use Rattle.std.specs.List.{list_any}
use Rattle.scalar_value.specs.declared.value.Value.{Value}
use Rattle.scalar_value.specs.declared.value.Value.TheVariants.{Missing, Lgl}
use Rattle.scalar_value.specs.declared.value.ColType.{ColType}
use Rattle.scalar_value.specs.declared.value.ColType.TheVariants as type
use Rattle.scalar_value.specs.Decimals.{million}
use Rattle.scalar_value.specs.Truths.{is_there, is_true, is_false}
use Rattle.scalar_value.specs.Numbers.{half, as_int, as_dec}
use Rattle.agg_rules.specs.declared.aggregate.AggKind.{AggKind}
use Rattle.agg_rules.specs.declared.aggregate.AggKind.TheVariants.{Count, Sum, Mean, Min, Max, Distinct, Any, All, First, Last}
use Rattle.agg_rules.specs.declared.aggregate.AggCall.{AggCall}
use Rattle.agg_rules.specs.Lists.{unless_missing, summed_number, sum_of, foremost, each_once}

-- ---- types

-- the type of a sum: of whole numbers and truth values a whole number, of decimals a decimal
abbrev pub sum_type : ColType → Option ColType
sum_type type.Int = Some type.Int
sum_type type.Dec = Some type.Dec
sum_type type.Chr = None
sum_type type.Date = None
sum_type type.Lgl = Some type.Int

-- a mean is a decimal, of what can be summed
abbrev pub mean_type : ColType → Option ColType
mean_type type.Int = Some type.Dec
mean_type type.Dec = Some type.Dec
mean_type type.Chr = None
mean_type type.Date = None
mean_type type.Lgl = Some type.Dec

-- `any` and `all` are of truth values
abbrev pub truth_type : ColType → Option ColType
truth_type type.Int = None
truth_type type.Dec = None
truth_type type.Chr = None
truth_type type.Date = None
truth_type type.Lgl = Some type.Lgl

-- the type of an aggregate by that of its argument, and none where the aggregate does not take it
abbrev pub type_of_agg : AggKind → ColType → Option ColType
type_of_agg Count t = Some type.Int
type_of_agg Sum t = sum_type t
type_of_agg Mean t = mean_type t
type_of_agg Min t = Some t
type_of_agg Max t = Some t
type_of_agg Distinct t = Some type.Int
type_of_agg Any t = truth_type t
type_of_agg All t = truth_type t
type_of_agg First t = Some t
type_of_agg Last t = Some t

-- ---- values

-- how many values there are, as a whole number of a table
unfoldable pub count_value : List Value → Value
count_value vs = as_int (pos (length vs))

-- the sum as a value of the type that a sum of this type has
abbrev pub as_sum : ColType → ℤ → Value
as_sum type.Int z = as_int z
as_sum type.Dec z = as_dec z
as_sum type.Chr z = Missing
as_sum type.Date z = Missing
as_sum type.Lgl z = as_int z

abbrev pub is_countable : List Value → Bool
is_countable vs = nat_lt (length vs) (2 ^ 64)

-- the exact sum; missing where a value is, out of range and from 2 ^ 64 values on
unfoldable pub sum_value : ColType → List Value → Value
sum_value t vs = unless_missing vs (if is_countable vs then as_sum t (sum_of (map summed_number vs)) else Missing)

-- the mean as a value, by the sum of so many values of this type
abbrev pub as_mean : ColType → ℤ → ℕ → Value
as_mean type.Int sum n = as_dec (half (sum *ℤ million) (pos n))
as_mean type.Dec sum n = as_dec (half sum (pos n))
as_mean type.Chr sum n = Missing
as_mean type.Date sum n = Missing
as_mean type.Lgl sum n = as_dec (half (sum *ℤ million) (pos n))

-- the exact mean, rounded half away from zero; missing of nothing and where a sum is
unfoldable pub mean_value : ColType → List Value → Value
mean_value t [] = Missing
mean_value t (v ∷ vs) =
    unless_missing (v ∷ vs) (if is_countable (v ∷ vs) then as_mean t (sum_of (map summed_number (v ∷ vs))) (length (v ∷ vs)) else Missing)

-- the smallest and the greatest value; missing of nothing and where a value is
unfoldable pub min_value : List Value → Value
min_value vs = unless_missing vs (foremost false vs)

unfoldable pub max_value : List Value → Value
max_value vs = unless_missing vs (foremost true vs)

-- the number of different values
unfoldable pub distinct_value : List Value → Value
distinct_value vs = as_int (pos (length (each_once vs)))

-- TRUE where one is TRUE, else missing where one is missing, else FALSE
unfoldable pub any_value : List Value → Value
any_value vs = if list_any is_true vs then Lgl true else unless_missing vs (Lgl false)

-- FALSE where one is FALSE, else missing where one is missing, else TRUE
unfoldable pub all_value : List Value → Value
all_value vs = if list_any is_false vs then Lgl false else unless_missing vs (Lgl true)

-- the first and the last value by place; missing of nothing
unfoldable pub first_value : List Value → Value
first_value vs = unwrap_or (slice_get vs 0) Missing

unfoldable pub last_value : List Value → Value
last_value vs = unwrap_or (slice_get vs (length vs - 1)) Missing

-- the values that an aggregate looks at: where missing ones are to be left out, the others
abbrev pub looked_at : Bool → List Value → List Value
looked_at true vs = filter is_there vs
looked_at false vs = vs

-- the value of an aggregate, at this type of its argument; `n`, `first` and `last` leave nothing out
abbrev pub agg_of : AggKind → ColType → Bool → List Value → Value
agg_of Count t na_rm vs = count_value vs
agg_of Sum t na_rm vs = sum_value t (looked_at na_rm vs)
agg_of Mean t na_rm vs = mean_value t (looked_at na_rm vs)
agg_of Min t na_rm vs = min_value (looked_at na_rm vs)
agg_of Max t na_rm vs = max_value (looked_at na_rm vs)
agg_of Distinct t na_rm vs = distinct_value (looked_at na_rm vs)
agg_of Any t na_rm vs = any_value (looked_at na_rm vs)
agg_of All t na_rm vs = all_value (looked_at na_rm vs)
agg_of First t na_rm vs = first_value vs
agg_of Last t na_rm vs = last_value vs

-- the value of an aggregate call on the list of its argument's values
abbrev pub agg : AggCall → List Value → Value
agg call vs = agg_of call.kind call.arg_type call.na_rm vs
