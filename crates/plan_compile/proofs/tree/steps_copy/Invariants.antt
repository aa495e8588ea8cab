use Rattle.std.proofs.Common.{◌≡◌, take}
use Rattle.plan_compile.proofs.tree.steps_copy.Given as goal

abbrev pub invariant-loop-step : goal.invariant-loop-step
invariant-loop-step l = l.made ≡ take l.step-index l.steps
