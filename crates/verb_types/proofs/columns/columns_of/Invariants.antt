use Rattle.std.proofs.Common.{◌≡◌, map, drop}
use Rattle.term_calls.proofs.Collected.{behind}
use Rattle.verb_arguments.specs.Arguments.{value_of}
use Rattle.verb_types.specs.Steps.{columns_of}
use Rattle.verb_types.proofs.columns.columns_of.Given as goal

abbrev pub invariant-loop-arg : goal.invariant-loop-arg
invariant-loop-arg l = columns_of l.schema (map value_of l.args) ≡ behind l.columns (columns_of l.schema (map value_of (drop l.arg-index l.args)))
