use Rattle.std.proofs.Common.{◌≡◌, drop}
use Rattle.verb_forms.specs.After.{with_parts}
use Rattle.verb_forms.proofs.after.with_parts.Given as goal

abbrev pub invariant-loop-value : goal.invariant-loop-value
invariant-loop-value l = with_parts l.initial.schema l.values ≡ with_parts l.schema (drop l.value-index l.values)
