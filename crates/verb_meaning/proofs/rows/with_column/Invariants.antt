use Rattle.std.proofs.Common.{◌≡◌, map}
use Rattle.verb_meaning.specs.Rows.{with_value}
use Rattle.verb_meaning.proofs.rows.with_column.Given as goal

abbrev pub invariant-loop-row : goal.invariant-loop-row
invariant-loop-row l = l.made ≡ map (with_value l.schema l.value) l.yielded
