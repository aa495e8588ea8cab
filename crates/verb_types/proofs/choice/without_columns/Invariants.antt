use Rattle.std.proofs.Common.{◌≡◌}
use Rattle.verb_types.specs.Steps.{without_columns}
use Rattle.verb_types.proofs.choice.without_columns.Given as goal

abbrev pub invariant-loop-column : goal.invariant-loop-column
invariant-loop-column l = l.left ≡ without_columns l.yielded l.away
