use Rattle.std.proofs.Common.{◌≡◌, take, filter}
use Rattle.verb_meaning.specs.Rows.{passes}
use Rattle.verb_meaning.proofs.rows.filtered.Given as goal

abbrev pub invariant-loop-row : goal.invariant-loop-row
invariant-loop-row l = l.made ≡ filter (passes l.conditions) (take l.row-index l.rows)
