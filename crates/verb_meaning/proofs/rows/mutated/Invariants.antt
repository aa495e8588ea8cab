use Rattle.std.proofs.Common.{◌≡◌, drop}
use Rattle.verb_meaning.specs.Rows.{with_values}
use Rattle.verb_meaning.proofs.rows.mutated.Given as goal

abbrev pub invariant-loop-value : goal.invariant-loop-value
invariant-loop-value l = with_values l.initial.schema l.values l.initial.rows ≡ with_values l.schema (drop l.value-index l.values) l.rows
