use Rattle.std.proofs.Common.{◌≡◌, ◌++◌, take}
use Rattle.verb_types.proofs.moves.push_all.Given as goal

abbrev pub invariant-loop-at : goal.invariant-loop-at
invariant-loop-at l = l.made ≡ l.initial.made ++ take l.at-index l.places
