use Rattle.std.proofs.Common.{sym}
use Rattle.plan_bounds.proofs.NodeByNode.{at_some, at_none}
use Rattle.plan_bounds.proofs.computed.input_number.Goals as goal

pub returns-in-Some : goal.returns-in-Some
returns-in-Some c = sym (at_some 0 c.args.place c.args.node.now.inputs c.in-Some.number.now (sym c.in-Some.ensures.value))

pub returns-in-None : goal.returns-in-None
returns-in-None c = sym (at_none 0 c.args.place c.args.node.now.inputs (sym c.in-None.ensures.value))
