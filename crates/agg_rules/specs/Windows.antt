-- The window values: for each row of a group, a statement on the whole list of the group's values.
use Rattle.std.specs.Prelude.{ℕ, ◌+◌, ◌-◌, pos, Bool, ◌&&◌, nat_le, if◌then◌else◌, List, length, filter, take, drop, reverse, find, slice_get, unwrap_or}
use Rattle.scalar_value.specs.declared.value.Value.{Value}
use Rattle.scalar_value.specs.declared.value.Value.TheVariants.{Missing, Int, Dec, Chr, Day, Lgl}
use Rattle.scalar_value.specs.Numbers.{as_int}
use Rattle.scalar_value.specs.declared.value.ColType.TheVariants as type
use Rattle.agg_rules.specs.declared.window.WindowKind.{WindowKind}
use Rattle.agg_rules.specs.declared.window.WindowKind.TheVariants.{Agg, RowNumber, FromEnd, Lag, Lead, Cumsum, MinRank, DenseRank, Before, FillDown, FillUp, FillDownUp, FillUpDown}
use Rattle.scalar_value.specs.Truths.{is_missing, is_there}
use Rattle.agg_rules.specs.Lists.{comes_before, each_once}
use Rattle.agg_rules.specs.Aggregates.{agg_of, sum_value}

-- the value at a place, and a missing one where there is no row
abbrev pub value_at : List Value → ℕ → Value
value_at vs i = unwrap_or (slice_get vs i) Missing

-- the value so many rows before, and after
abbrev pub lag_value : List Value → ℕ → ℕ → Value
lag_value vs k i = if nat_le k i then value_at vs (i - k) else Missing

abbrev pub lead_value : List Value → ℕ → ℕ → Value
lead_value vs k i = value_at vs (i + k)

-- the sum of the values up to and with this row, of the row's type
abbrev pub running_sum : Value → List Value → Value
running_sum (Int z) front = sum_value type.Int front
running_sum (Dec m) front = sum_value type.Dec front
running_sum (Chr t) front = Missing
running_sum (Day d) front = Missing
running_sum (Lgl b) front = Missing
running_sum Missing front = Missing

unfoldable pub cumsum_value : List Value → ℕ → Value
cumsum_value vs i = running_sum (value_at vs i) (take (i + 1) vs)

-- the values of a list that are there and come before this one
abbrev pub ahead_of : Bool → Value → List Value → List Value
ahead_of descending v vs = filter (λ w. is_there w && comes_before descending w v) vs

-- 1 and the number of rows with a smaller value, or with a greater one where the order is descending; missing for a missing value
unfoldable pub min_rank_value : Bool → List Value → ℕ → Value
min_rank_value descending vs i = if is_missing (value_at vs i) then Missing else as_int (pos (1 + length (ahead_of descending (value_at vs i) vs)))

-- the same over the different values
unfoldable pub dense_rank_value : Bool → List Value → ℕ → Value
dense_rank_value descending vs i = if is_missing (value_at vs i) then Missing else as_int (pos (1 + length (each_once (ahead_of descending (value_at vs i) vs))))

-- the number of rows that stand before this one, missing values after all others in both directions
abbrev pub rows_ahead : Bool → Value → List Value → List Value
rows_ahead descending v vs = if is_missing v then filter is_there vs else ahead_of descending v vs

unfoldable pub before_value : Bool → List Value → ℕ → Value
before_value descending vs i = as_int (pos (length (rows_ahead descending (value_at vs i) vs)))

-- the first value of a list that is there, and a missing one where there is none
abbrev pub first_there : List Value → Value
first_there vs = unwrap_or (find is_there vs) Missing

-- the last value that is there up to and with this row, and the next from it on
unfoldable pub filled_down : List Value → ℕ → Value
filled_down vs i = first_there (reverse (take (i + 1) vs))

unfoldable pub filled_up : List Value → ℕ → Value
filled_up vs i = first_there (drop i vs)

-- the first value, and the second one where the first is missing
abbrev pub or_else : Value → Value → Value
or_else v w = if is_missing v then w else v

-- the value at place i of a window call over the rows of one group; the shift is that of `lag` and `lead` alone
abbrev pub win : WindowKind → ℕ → Bool → List Value → ℕ → Value
win (Agg kind na_rm t) shift descending vs i = agg_of kind t na_rm vs
win RowNumber shift descending vs i = as_int (pos (i + 1))
win FromEnd shift descending vs i = as_int (pos (length vs - i))
win Lag shift descending vs i = lag_value vs shift i
win Lead shift descending vs i = lead_value vs shift i
win Cumsum shift descending vs i = cumsum_value vs i
win MinRank shift descending vs i = min_rank_value descending vs i
win DenseRank shift descending vs i = dense_rank_value descending vs i
win Before shift descending vs i = before_value descending vs i
win FillDown shift descending vs i = filled_down vs i
win FillUp shift descending vs i = filled_up vs i
win FillDownUp shift descending vs i = or_else (filled_down vs i) (filled_up vs i)
win FillUpDown shift descending vs i = or_else (filled_up vs i) (filled_down vs i)
