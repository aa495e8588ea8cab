use Rattle.std.proofs.Common.{◌≡◌, map, take}
use Rattle.plan_compile.specs.Steps.{is_there}
use Rattle.plan_compile.proofs.steps.are_there.Given as goal

abbrev pub invariant-loop-at : goal.invariant-loop-at
invariant-loop-at l = l.conditions ≡ map is_there (take l.at-index l.columns)
