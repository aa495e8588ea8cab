use Rattle.std.proofs.Common.{◌≡◌, map, take}
use Rattle.verb_forms.specs.declared.part.Part.{Part}
use Rattle.plan_compile.proofs.steps.conditions_of.Given as goal

abbrev pub invariant-loop-part : goal.invariant-loop-part
invariant-loop-part l = l.conditions ≡ map (λ (part : Part). part.value) (take l.part-index l.parts)
