use Rattle.std.proofs.Common.{◌≡◌, drop}
use Rattle.verb_meaning.specs.Rows.{is_whole}
use Rattle.verb_meaning.proofs.rows.is_whole.Given as goal

abbrev pub invariant-loop-at : goal.invariant-loop-at
invariant-loop-at l = is_whole l.columns l.row ≡ is_whole (drop l.at-index l.columns) l.row
