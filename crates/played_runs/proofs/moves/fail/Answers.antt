use Rattle.std.proofs.Common.{◌+◌, arith}
use Rattle.plan_machine.specs.declared.entry.Entry.TheVariants.{Fail}
use Rattle.played_runs.proofs.Spared.{hands_left}
use Rattle.played_runs.proofs.moves.fail.Goals as goal

pub returns-in-Some-clause-hands : goal.returns-in-Some-clause-hands
returns-in-Some-clause-hands g c =
    hands_left g.O.Operator.meaning g.O.Operator.local_is g.O.Operator.shared_is c.args.state.now c.fail.new.self (Fail (c.args.place + 1)) (c.args.place + 1) c.args.place c.args.hands.now.items c.take_hand.new.hands.items
    c.fail.ensures (λ w ne. ne) (omega arith) c.take_hand.ensures.left c.requires.hands
