use Rattle.std.proofs.Common.{◌≡◌, take}
use Rattle.selections.specs.Columns.{with_columns}
use Rattle.selections.proofs.places.with_columns.Given as goal

abbrev pub invariant-loop-at : goal.invariant-loop-at
invariant-loop-at l = l.had ≡ with_columns l.fn.had (take l.at-index l.more)
