use Rattle.std.proofs.Common.{◌≡◌, true, sym, subst}
use Rattle.plan_store.specs.Told.{given_by, plan_of}
use Rattle.plan_machine.specs.Plan.{IsWorker}
use Rattle.run_state.specs.Delivering.{IsFlying, is_dropped}
use Rattle.run_state.proofs.Delivering.{departing, after_drop}
use Rattle.run_state.proofs.state.RunState.deliver_nothing.Goals as goal

pub depart-requires : goal.depart-requires
depart-requires g c =
    let p = c.self.inside in
    let worker = subst (λ t. IsWorker (plan_of t.given) c.args.worker) (sym c.self.view_is) c.requires.worker in
    let due = subst (λ t. IsFlying t c.args.worker c.args.node) (sym c.self.view_is) c.requires.flying in
    departing _ _ _ (given_by p.plan.nodes p.sources p.setting) p.history.items p.infos.items p.stages.items p.queues.items _ p.seats.items p.failed p.flying p.room _ c.args.worker c.args.node due.task c.self.invariant worker due.flies due.at_node

pub invariant_of-self : goal.invariant_of-self
invariant_of-self g c =
    let p = c.self.inside in
    let worker = subst (λ t. IsWorker (plan_of t.given) c.args.worker) (sym c.self.view_is) c.requires.worker in
    let due = subst (λ t. IsFlying t c.args.worker c.args.node) (sym c.self.view_is) c.requires.flying in
    let dropped = subst (λ t. is_dropped t c.args.node ≡ true) (sym c.self.view_is) c.requires.dropped in
    let made = c.depart.ensures in
    rw made.history
    (after_drop _ _ _ (given_by p.plan.nodes p.sources p.setting) p.history.items p.infos.items p.stages.items _ p.queues.items _ p.seats.items _ p.failed p.flying _ p.room _ _ c.args.worker c.args.node due.task c.self.invariant worker due.flies due.at_node dropped made.seats made.stages made.flying made.capacity)
