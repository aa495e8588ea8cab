use Rattle.std.proofs.Common.{◌≡◌, vec_len}
use Rattle.plan_store.specs.Told.{given_by}
use Rattle.played_runs.specs.Hands.{AreHands}
use Rattle.played_runs.proofs.playing.play.Given as goal

abbrev pub invariant-loop : goal.invariant-loop
invariant-loop g l =
    (l.state.given ≡ given_by l.fn.plan.nodes l.fn.sources l.fn.setting)
    × AreHands g.O.Operator.meaning g.O.Operator.local_is g.O.Operator.shared_is l.state l.hands.items
    × (vec_len l.hands ≡ l.fn.setting.workers)
