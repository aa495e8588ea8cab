use Rattle.std.proofs.Common.{◌≡◌, drop}
use Rattle.verb_forms.specs.Suits.{are_typed}
use Rattle.verb_forms.proofs.suiting.are_typed.Given as goal

abbrev pub invariant-loop-value : goal.invariant-loop-value
invariant-loop-value l = are_typed l.initial.schema l.values ≡ are_typed l.schema (drop l.value-index l.values)
