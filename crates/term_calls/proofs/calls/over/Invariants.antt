use Rattle.std.proofs.Common.{◌≡◌, map}
use Rattle.term_calls.specs.Pieces.{type_as, expr_as}
use Rattle.term_calls.proofs.calls.over.Given as goal

abbrev pub invariant-loop-piece : goal.invariant-loop-piece
invariant-loop-piece l = (l.kinds ≡ map (type_as l.wanted) l.yielded) × (l.args ≡ map (expr_as l.wanted) l.yielded)
