-- What the loops keep of the values so far; no clause of a public function cites it.
use Rattle.std.specs.Prelude.{Bool, if◌then◌else◌, Option, Some, None}
use Rattle.scalar_value.specs.declared.value.Value.{Value}
use Rattle.scalar_value.specs.Truths.{is_missing}
use Rattle.agg_rules.specs.Lists.{comes_before}

-- the value that comes first of two
abbrev pub foremost_of : Bool → Option Value → Value → Value
foremost_of descending None v = v
foremost_of descending (Some best) v = if comes_before descending v best then v else best

-- the value that comes first of those so far and one more, which is passed over where it is missing
abbrev pub foremost_after : Bool → Option Value → Value → Option Value
foremost_after descending first v = if is_missing v then first else Some (foremost_of descending first v)
