use Rattle.std.proofs.Common.{◌≤◌, sym, subst, arith}
use Rattle.plan_machine.specs.Enabled.{HasTask}
use Rattle.plan_store.specs.Told.{given_by, plan_of, state_of}
use Rattle.run_state.proofs.Leaving.{task_node, flies, after_fail}
use Rattle.run_state.proofs.state.RunState.fail.Goals as goal

pub overflow_sub-flight : goal.overflow_sub-flight
overflow_sub-flight g c =
    let p = c.self.inside in
    let can = subst (λ t. HasTask (plan_of t.given) (state_of t) c.args.worker) (sym c.self.view_is) c.requires in
    let node = task_node _ _ _ (given_by p.plan.nodes p.sources p.setting) p.history.items p.infos.items p.stages.items p.queues.items _ p.seats.items p.failed p.flying p.room _ c.args.worker c.leave_seat-flight.result c.self.invariant can c.leave_seat-flight.ensures.was in
    node.0

pub leave_node-requires-clause-within : goal.leave_node-requires-clause-within
leave_node-requires-clause-within g c =
    let p = c.self.inside in
    let can = subst (λ t. HasTask (plan_of t.given) (state_of t) c.args.worker) (sym c.self.view_is) c.requires in
    let within = (flies _ _ _ (given_by p.plan.nodes p.sources p.setting) p.history.items p.infos.items p.stages.items p.queues.items _ p.seats.items p.failed p.flying p.room _ c.args.worker c.leave_seat-flight.result c.self.invariant can c.leave_seat-flight.ensures.was).within in
    omega arith

pub leave_node-requires-clause-busy : goal.leave_node-requires-clause-busy
leave_node-requires-clause-busy g c =
    let p = c.self.inside in
    let can = subst (λ t. HasTask (plan_of t.given) (state_of t) c.args.worker) (sym c.self.view_is) c.requires in
    (flies _ _ _ (given_by p.plan.nodes p.sources p.setting) p.history.items p.infos.items p.stages.items p.queues.items _ p.seats.items p.failed p.flying p.room _ c.args.worker c.leave_seat-flight.result c.self.invariant can c.leave_seat-flight.ensures.was).busy

pub overflow_sub-self : goal.overflow_sub-self
overflow_sub-self g c =
    let p = c.self.inside in
    let can = subst (λ t. HasTask (plan_of t.given) (state_of t) c.args.worker) (sym c.self.view_is) c.requires in
    (flies _ _ _ (given_by p.plan.nodes p.sources p.setting) p.history.items p.infos.items p.stages.items p.queues.items _ p.seats.items p.failed p.flying p.room _ c.args.worker c.leave_seat-flight.result c.self.invariant can c.leave_seat-flight.ensures.was).some

pub push_reserved-requires : goal.push_reserved-requires
push_reserved-requires g c =
    let p = c.self.inside in
    let can = subst (λ t. HasTask (plan_of t.given) (state_of t) c.args.worker) (sym c.self.view_is) c.requires in
    let some : 1 ≤ p.flying = (flies _ _ _ (given_by p.plan.nodes p.sources p.setting) p.history.items p.infos.items p.stages.items p.queues.items _ p.seats.items p.failed p.flying p.room _ c.args.worker c.leave_seat-flight.result c.self.invariant can c.leave_seat-flight.ensures.was).some in
    let fits = c.self.invariant.fits in
    omega arith

pub invariant_of-self : goal.invariant_of-self
invariant_of-self g c =
    let p = c.self.inside in
    let can = subst (λ t. HasTask (plan_of t.given) (state_of t) c.args.worker) (sym c.self.view_is) c.requires in
    let some : 1 ≤ p.flying = (flies _ _ _ (given_by p.plan.nodes p.sources p.setting) p.history.items p.infos.items p.stages.items p.queues.items _ p.seats.items p.failed p.flying p.room _ c.args.worker c.leave_seat-flight.result c.self.invariant can c.leave_seat-flight.ensures.was).some in
    rw c.push_reserved.ensures.items
    (after_fail _ _ _ (given_by p.plan.nodes p.sources p.setting) p.history.items p.infos.items p.stages.items _ p.queues.items _ p.seats.items _ p.failed p.flying _ p.room _ _ c.args.worker c.leave_seat-flight.result c.self.invariant can c.leave_seat-flight.ensures.was c.leave_seat-flight.ensures.left c.leave_node.ensures (omega arith) c.push_reserved.ensures.capacity)
