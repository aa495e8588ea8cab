use Rattle.std.proofs.Common.{◌≡◌, map, take}
use Rattle.term_calls.specs.Pieces.{type_as}
use Rattle.term_calls.proofs.calls.kinds_as.Given as goal

abbrev pub invariant-loop-piece : goal.invariant-loop-piece
invariant-loop-piece l = l.kinds ≡ map (type_as l.wanted) (take l.piece-index l.pieces)
