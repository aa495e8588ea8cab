use Rattle.std.proofs.Common.{◌≡◌, take}
use Rattle.hash_join.specs.Windows.{offers}
use Rattle.hash_join.specs.Given.{given_rows}
use Rattle.hash_join.proofs.offers.offer_rows.Given as goal

abbrev pub invariant-loop-x : goal.invariant-loop-x
invariant-loop-x l = l.window ≡ offers l.initial.window (given_rows l.spec l.missing l.built (take l.x-index l.rows))
