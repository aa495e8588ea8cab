use Rattle.std.proofs.Common.{◌≡◌, ◌<◌, drop}
use Rattle.std.specs.Str.Parse.{digits_value_after}
use Rattle.token_scan.proofs.number.value_below.Given as goal

abbrev pub invariant-loop-digit : goal.invariant-loop-digit
invariant-loop-digit l =
    (l.value < l.limit) × (digits_value_after 10 l.value (drop l.digit-index l.digits) ≡ digits_value_after 10 l.fn.start l.digits)
