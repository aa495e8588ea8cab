use Rattle.std.proofs.Common.{◌≡◌, drop, []}
use Rattle.verb_types.specs.Steps.{with_choices}
use Rattle.verb_types.proofs.choice.choices_of.Given as goal

abbrev pub invariant-loop-arg : goal.invariant-loop-arg
invariant-loop-arg l = with_choices l.schema (record { chosen = l.fn.start; given = [] }) l.args ≡ with_choices l.schema l.had (drop l.arg-index l.args)
