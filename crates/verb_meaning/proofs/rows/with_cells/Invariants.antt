use Rattle.std.proofs.Common.{◌≡◌, drop}
use Rattle.verb_meaning.specs.Rows.{with_cells}
use Rattle.verb_meaning.proofs.rows.with_cells.Given as goal

abbrev pub invariant-loop-cell : goal.invariant-loop-cell
invariant-loop-cell l = with_cells l.cells l.initial.row ≡ with_cells (drop l.cell-index l.cells) l.row
