use Rattle.std.proofs.Common.{sym, ap, subst}
use Rattle.task_work.specs.declared.work.Fruit.TheVariants as fruit
use Rattle.plan_store.specs.Told.{given_by}
use Rattle.run_state.specs.Stored.{takes_all}
use Rattle.run_state.proofs.Bringing.{Brings}
use Rattle.run_state.proofs.Delivering.{departing}
use Rattle.run_state.proofs.Landed.{has_seat}
use Rattle.run_state.proofs.BringTail.{tail_delivered, tail_room}
use Rattle.run_state.proofs.state.RunState.deliver_tail.Goals as goal

pub depart-requires : goal.depart-requires
depart-requires g c =
    let p = c.self.inside in
    let b = subst (λ t. Brings g.O.Operator.meaning g.O.Operator.local_is g.O.Operator.shared_is t c.args.worker c.args.node (fruit.Tail c.args.part c.args.out)) (sym c.self.view_is) (record { worker = c.requires.worker; due = c.requires.due; kept = c.requires.kept }) in
    departing _ _ _ (given_by p.plan.nodes p.sources p.setting) p.history.items p.infos.items p.stages.items p.queues.items _ p.seats.items p.failed p.flying p.room _ c.args.worker c.args.node b.due.task c.self.invariant b.worker b.due.flies b.due.at_node

pub put_share-requires : goal.put_share-requires
put_share-requires g c =
    let p = c.self.inside in
    let b = subst (λ t. Brings g.O.Operator.meaning g.O.Operator.local_is g.O.Operator.shared_is t c.args.worker c.args.node (fruit.Tail c.args.part c.args.out)) (sym c.self.view_is) (record { worker = c.requires.worker; due = c.requires.due; kept = c.requires.kept }) in
    has_seat _ _ _ (given_by p.plan.nodes p.sources p.setting) p.history.items p.infos.items p.stages.items p.queues.items _ p.seats.items p.failed p.flying p.room _ c.args.worker c.args.node b.due.task c.self.invariant b.worker b.due.flies b.due.at_node b.kept (ap takes_all b.due.fruit.0)

pub put_back-requires : goal.put_back-requires
put_back-requires g c =
    let p = c.self.inside in
    let b = subst (λ t. Brings g.O.Operator.meaning g.O.Operator.local_is g.O.Operator.shared_is t c.args.worker c.args.node (fruit.Tail c.args.part c.args.out)) (sym c.self.view_is) (record { worker = c.requires.worker; due = c.requires.due; kept = c.requires.kept }) in
    tail_room _ _ _ (given_by p.plan.nodes p.sources p.setting) p.history.items p.infos.items p.stages.items p.queues.items _ p.seats.items p.failed p.flying p.room _ c.args.worker c.args.node c.args.part c.args.out c.self.invariant b

pub invariant_of-self : goal.invariant_of-self
invariant_of-self g c =
    let p = c.self.inside in
    let b = subst (λ t. Brings g.O.Operator.meaning g.O.Operator.local_is g.O.Operator.shared_is t c.args.worker c.args.node (fruit.Tail c.args.part c.args.out)) (sym c.self.view_is) (record { worker = c.requires.worker; due = c.requires.due; kept = c.requires.kept }) in
    let made = c.depart.ensures in
    rw made.history
    (tail_delivered _ _ _ (given_by p.plan.nodes p.sources p.setting) p.history.items p.infos.items p.stages.items _ p.queues.items _ _ _ p.seats.items _ p.failed p.flying _ p.room _ _ c.args.worker c.args.node c.args.part c.args.out c.self.invariant b made.seats made.stages c.put_share.ensures c.put_back.ensures made.flying made.capacity)
