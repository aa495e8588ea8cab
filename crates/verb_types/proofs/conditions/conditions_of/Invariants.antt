use Rattle.std.proofs.Common.{◌≡◌, drop, [], None}
use Rattle.verb_types.specs.Steps.{with_conditions}
use Rattle.verb_types.proofs.conditions.conditions_of.Given as goal

abbrev pub invariant-loop-arg : goal.invariant-loop-arg
invariant-loop-arg l = with_conditions l.schema (record { columns = None; parts = [] }) l.args ≡ with_conditions l.schema l.had (drop l.arg-index l.args)
