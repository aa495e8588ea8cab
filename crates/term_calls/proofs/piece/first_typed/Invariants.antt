use Rattle.std.proofs.Common.{◌≡◌, map, drop}
use Rattle.term_calls.specs.Pieces.{kind_of, first_kind}
use Rattle.term_calls.proofs.piece.first_typed.Given as goal

abbrev pub invariant-loop-piece : goal.invariant-loop-piece
invariant-loop-piece l = first_kind (map kind_of l.pieces) ≡ first_kind (map kind_of (drop l.piece-index l.pieces))
