use Rattle.std.proofs.Common.{ap, arith}
use Rattle.plan_store.specs.Told.{Told, plan_of}
use Rattle.task_core.proofs.state.PlanState.first_stop.Goals as goal

pub returns-then-may_stop-clause-some : goal.returns-then-may_stop-clause-some
returns-then-may_stop-clause-some g c = (c.may_stop.ensures.0 c.if-may_stop.true, λ j low can. c.loop-place.invariant j (omega arith) can)

pub returns-clause-none : goal.returns-clause-none
returns-clause-none g c k can =
    let up = can.1.node.1 in
    let end = c.node_count-place-end.ensures in
    let same = ap (λ (u : Told). (plan_of u.given).sink) c.self.view_is in
    let over = c.loop-place-test.false in
    c.loop-place.invariant k (omega arith) can
