use Rattle.std.proofs.Common.{◌≡◌, vec_len}
use Rattle.played_runs.specs.Hands.{AreHands}
use Rattle.played_runs.proofs.playing.make_moves.Given as goal

abbrev pub invariant-loop-next : goal.invariant-loop-next
invariant-loop-next g l =
    (l.state.given ≡ l.fn.state.given)
    × AreHands g.O.Operator.meaning g.O.Operator.local_is g.O.Operator.shared_is l.state l.hands.items
    × (vec_len l.hands ≡ vec_len l.fn.hands)
