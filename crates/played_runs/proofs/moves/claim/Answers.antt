use Rattle.std.proofs.Common.{arith}
use Rattle.played_runs.proofs.Spared.{hands_claimed}
use Rattle.played_runs.proofs.moves.claim.Goals as goal

pub returns-in-Some-clause-hands : goal.returns-in-Some-clause-hands
returns-in-Some-clause-hands g c =
    let h = c.in-Some.task in
    hands_claimed g.O.Operator.meaning g.O.Operator.local_is g.O.Operator.shared_is c.args.state.now c.claim.new.self _ c.args.place c.args.hands.now.items
    (record { node = h.node; kept = h.kept; batch = h.batch; work = h.work }) c.in-Some.ensures.claimed (omega arith) c.requires.hands
