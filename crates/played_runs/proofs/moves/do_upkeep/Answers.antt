use Rattle.plan_store.specs.Told.{plan_of, state_of}
use Rattle.played_runs.proofs.Spared.{hands_kept, upkeep_spares}
use Rattle.played_runs.proofs.moves.do_upkeep.Goals as goal

pub returns-in-Some-clause-hands : goal.returns-in-Some-clause-hands
returns-in-Some-clause-hands g c =
    let t = c.args.state.now in
    hands_kept g.O.Operator.meaning g.O.Operator.local_is g.O.Operator.shared_is t c.keep_up.new.state c.in-Some.due 1 c.args.hands.now c.keep_up.ensures
    (upkeep_spares (plan_of t.given) (state_of t) c.in-Some.due c.in-Some.ensures.some) c.requires.hands
