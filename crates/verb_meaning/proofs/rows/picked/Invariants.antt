use Rattle.std.proofs.Common.{◌≡◌, take}
use Rattle.verb_meaning.specs.Rows.{picked}
use Rattle.verb_meaning.proofs.rows.picked.Given as goal

abbrev pub invariant-loop-column : goal.invariant-loop-column
invariant-loop-column l = l.made ≡ picked (take l.column-index l.chosen) l.row
