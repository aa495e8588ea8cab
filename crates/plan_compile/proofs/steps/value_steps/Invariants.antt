use Rattle.std.proofs.Common.{◌≡◌, ◌++◌, drop}
use Rattle.plan_compile.specs.Steps.{value_steps}
use Rattle.plan_compile.proofs.steps.value_steps.Given as goal

abbrev pub invariant-loop-value : goal.invariant-loop-value
invariant-loop-value l = l.steps ++ value_steps l.columns (drop l.value-index l.values) ≡ value_steps l.schema l.values
