use Rattle.std.proofs.Common.{◌≡◌, map, take}
use Rattle.verb_meaning.specs.Rows.{with_cells}
use Rattle.verb_meaning.proofs.rows.replaced_rows.Given as goal

abbrev pub invariant-loop-row : goal.invariant-loop-row
invariant-loop-row l = l.made ≡ map (with_cells l.cells) (take l.row-index l.rows)
