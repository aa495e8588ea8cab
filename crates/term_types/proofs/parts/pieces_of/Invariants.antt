use Rattle.std.proofs.Common.{◌≡◌, map}
use Rattle.term_calls.specs.Calls.{piece_of_part}
use Rattle.term_types.proofs.parts.pieces_of.Given as goal

abbrev pub invariant-loop-part : goal.invariant-loop-part
invariant-loop-part l = l.made ≡ map piece_of_part l.yielded
