use Rattle.std.proofs.Common.{◌+◌, ◌<◌, length, None, arith}
use Rattle.plan_machine.specs.declared.entry.Entry.TheVariants.{Deliver}
use Rattle.played_runs.proofs.Spared.{hand_held, hand_batch, hand_due, hands_left}
use Rattle.played_runs.proofs.moves.deliver.Goals as goal

pub run_task-requires-clause-batch : goal.run_task-requires-clause-batch
run_task-requires-clause-batch g c κs within =
    let t = c.args.state.now in
    let ok = c.args.hands.now.ok in
    let low = c.requires.place in
    let lt : c.args.place < length c.args.hands.now.items = omega arith in
    let i = hand_held g.O.Operator.meaning g.O.Operator.local_is g.O.Operator.shared_is t c.args.place c.args.hands.now.items c.take_hand.result c.in-Some.hand c.requires.hands lt (c.take_hand.ensures.was None) c.in-Some.is in
    hand_batch g.O.Operator.meaning g.O.Operator.local_is g.O.Operator.shared_is t _ c.in-Some.hand i c.requires.pace.batch

pub deliver-requires-clause-due : goal.deliver-requires-clause-due
deliver-requires-clause-due g c κs within =
    let t = c.args.state.now in
    let ok = c.args.hands.now.ok in
    let low = c.requires.place in
    let lt : c.args.place < length c.args.hands.now.items = omega arith in
    let i = hand_held g.O.Operator.meaning g.O.Operator.local_is g.O.Operator.shared_is t c.args.place c.args.hands.now.items c.take_hand.result c.in-Some.hand c.requires.hands lt (c.take_hand.ensures.was None) c.in-Some.is in
    hand_due g.O.Operator.meaning g.O.Operator.local_is g.O.Operator.shared_is t _ c.args.place c.in-Some.hand c.in_ok-done.done.node c.in_ok-done.done.fruit (omega arith) i c.in_ok-done.ensures

pub returns-in_ok-done-clause-hands : goal.returns-in_ok-done-clause-hands
returns-in_ok-done-clause-hands g c =
    hands_left g.O.Operator.meaning g.O.Operator.local_is g.O.Operator.shared_is c.args.state.now c.deliver.new.self (Deliver (c.args.place + 1)) (c.args.place + 1) c.args.place c.args.hands.now.items c.take_hand.new.hands.items
    c.deliver.ensures (λ w ne. ne) (omega arith) c.take_hand.ensures.left c.requires.hands
