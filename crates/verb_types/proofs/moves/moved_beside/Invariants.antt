use Rattle.std.proofs.Common.{◌≡◌, take}
use Rattle.std.specs.List.{flat_map}
use Rattle.verb_types.specs.Steps.{beside_anchor}
use Rattle.verb_types.proofs.moves.moved_beside.Given as goal

abbrev pub invariant-loop-at : goal.invariant-loop-at
invariant-loop-at l = l.made ≡ flat_map (beside_anchor l.moved l.after l.anchor) (take l.at-index l.rest)
