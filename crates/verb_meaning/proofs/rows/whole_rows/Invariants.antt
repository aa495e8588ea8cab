use Rattle.std.proofs.Common.{◌≡◌, take, filter}
use Rattle.verb_meaning.specs.Rows.{is_whole}
use Rattle.verb_meaning.proofs.rows.whole_rows.Given as goal

abbrev pub invariant-loop-row : goal.invariant-loop-row
invariant-loop-row l = l.made ≡ filter (is_whole l.columns) (take l.row-index l.rows)
