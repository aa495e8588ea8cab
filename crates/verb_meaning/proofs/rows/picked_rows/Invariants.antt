use Rattle.std.proofs.Common.{◌≡◌, map, take}
use Rattle.verb_meaning.specs.Rows.{picked}
use Rattle.verb_meaning.proofs.rows.picked_rows.Given as goal

abbrev pub invariant-loop-row : goal.invariant-loop-row
invariant-loop-row l = l.made ≡ map (picked l.chosen) (take l.row-index l.rows)
