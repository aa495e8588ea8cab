use Rattle.std.proofs.Common.{◌≡◌, drop, [], None}
use Rattle.verb_types.specs.Steps.{with_values}
use Rattle.verb_types.proofs.values.values_of.Given as goal

abbrev pub invariant-loop-arg : goal.invariant-loop-arg
invariant-loop-arg l = with_values l.schema (record { columns = None; schema = l.schema; values = [] }) l.args ≡ with_values l.schema l.had (drop l.arg-index l.args)
