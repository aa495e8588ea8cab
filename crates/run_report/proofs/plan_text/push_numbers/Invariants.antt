use Rattle.std.proofs.Common.{◌≡◌, ◌++◌, map, take}
use Rattle.std.specs.Prelude.{string_bytes, decimal}
use Rattle.std.specs.List.{flat_map}
use Rattle.run_report.specs.Spaced.{spaced}
use Rattle.run_report.proofs.plan_text.push_numbers.Given as goal

abbrev pub invariant-loop-number : goal.invariant-loop-number
invariant-loop-number l =
    string_bytes l.out ≡ string_bytes l.fn.out ++ flat_map spaced (map decimal (take l.number-index l.numbers))
