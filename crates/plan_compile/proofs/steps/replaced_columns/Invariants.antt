use Rattle.std.proofs.Common.{◌≡◌, map}
use Rattle.std.specs.List.{range_with_len}
use Rattle.plan_compile.specs.Steps.{literals_for, or_literals}
use Rattle.plan_compile.proofs.steps.replaced_columns.Given as goal

abbrev pub invariant-loop-at : goal.invariant-loop-at
invariant-loop-at l = l.columns ≡ map (λ at. or_literals l.schema at (literals_for l.schema l.cells at)) (range_with_len 0 l.at)
