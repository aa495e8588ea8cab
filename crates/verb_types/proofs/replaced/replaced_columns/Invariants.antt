use Rattle.std.proofs.Common.{◌≡◌, map, drop}
use Rattle.term_calls.specs.Faults.{all_of}
use Rattle.term_calls.proofs.Collected.{behind}
use Rattle.verb_types.specs.Steps.{replaced_column}
use Rattle.verb_types.proofs.replaced.replaced_columns.Given as goal

abbrev pub invariant-loop-arg : goal.invariant-loop-arg
invariant-loop-arg l = all_of (map (replaced_column l.schema) l.args) ≡ behind l.cells (all_of (map (replaced_column l.schema) (drop l.arg-index l.args)))
