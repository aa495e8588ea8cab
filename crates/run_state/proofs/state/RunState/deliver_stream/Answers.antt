use Rattle.std.proofs.Common.{◌≡◌, List, ◌-◌, slice_index_or, sym, ap, subst}
use Rattle.task_work.specs.declared.work.Fruit.TheVariants as fruit
use Rattle.plan_store.specs.Told.{given_by}
use Rattle.run_state.specs.Stored.{takes_all}
use Rattle.plan_store.specs.declared.stage.NodeInfo.{NodeInfo}
use Rattle.plan_store.specs.Putting.{HasPlace}
use Rattle.run_state.proofs.Bringing.{Brings, places}
use Rattle.run_state.proofs.Delivering.{departing}
use Rattle.run_state.proofs.Landed.{has_seat}
use Rattle.run_state.proofs.BringStream.{stream_delivered, stream_room_rest, stream_room_out}
use Rattle.run_state.proofs.state.RunState.deliver_stream.Goals as goal

pub first_input-edge-requires : goal.first_input-edge-requires
first_input-edge-requires g c =
    let p = c.self.inside in
    let b = subst (λ t. Brings g.O.Operator.meaning g.O.Operator.local_is g.O.Operator.shared_is t c.args.worker c.args.node (fruit.Stream c.args.part c.args.out c.args.rest)) (sym c.self.view_is) (record { worker = c.requires.worker; due = c.requires.due; kept = c.requires.kept }) in
    let at = places _ _ _ (given_by p.plan.nodes p.sources p.setting) p.history.items p.infos.items p.stages.items p.queues.items _ p.seats.items p.failed p.flying p.room _ c.args.worker c.args.node b.due.task c.self.invariant b.due.flies b.due.at_node in
    subst (λ (xs : List NodeInfo). HasPlace xs c.args.node) (sym c.deref.ensures.value) at.infos_at

pub depart-requires : goal.depart-requires
depart-requires g c =
    let p = c.self.inside in
    let b = subst (λ t. Brings g.O.Operator.meaning g.O.Operator.local_is g.O.Operator.shared_is t c.args.worker c.args.node (fruit.Stream c.args.part c.args.out c.args.rest)) (sym c.self.view_is) (record { worker = c.requires.worker; due = c.requires.due; kept = c.requires.kept }) in
    departing _ _ _ (given_by p.plan.nodes p.sources p.setting) p.history.items p.infos.items p.stages.items p.queues.items _ p.seats.items p.failed p.flying p.room _ c.args.worker c.args.node b.due.task c.self.invariant b.worker b.due.flies b.due.at_node

pub put_share-requires : goal.put_share-requires
put_share-requires g c =
    let p = c.self.inside in
    let b = subst (λ t. Brings g.O.Operator.meaning g.O.Operator.local_is g.O.Operator.shared_is t c.args.worker c.args.node (fruit.Stream c.args.part c.args.out c.args.rest)) (sym c.self.view_is) (record { worker = c.requires.worker; due = c.requires.due; kept = c.requires.kept }) in
    has_seat _ _ _ (given_by p.plan.nodes p.sources p.setting) p.history.items p.infos.items p.stages.items p.queues.items _ p.seats.items p.failed p.flying p.room _ c.args.worker c.args.node b.due.task c.self.invariant b.worker b.due.flies b.due.at_node b.kept (ap takes_all b.due.fruit.0)

pub put_rest-requires : goal.put_rest-requires
put_rest-requires g c x some =
    let p = c.self.inside in
    let b = subst (λ t. Brings g.O.Operator.meaning g.O.Operator.local_is g.O.Operator.shared_is t c.args.worker c.args.node (fruit.Stream c.args.part c.args.out c.args.rest)) (sym c.self.view_is) (record { worker = c.requires.worker; due = c.requires.due; kept = c.requires.kept }) in
    let edge = subst (λ (xs : List NodeInfo). (d : NodeInfo) → c.first_input-edge.result ≡ (slice_index_or xs (c.args.node - 1) d).first) c.deref.ensures.value c.first_input-edge.ensures in
    stream_room_rest _ _ _ (given_by p.plan.nodes p.sources p.setting) p.history.items p.infos.items p.stages.items p.queues.items _ p.seats.items p.failed p.flying p.room _ c.args.worker c.args.node c.first_input-edge.result c.args.part c.args.out c.args.rest x c.self.invariant b edge some

pub put_back-requires : goal.put_back-requires
put_back-requires g c =
    let p = c.self.inside in
    let b = subst (λ t. Brings g.O.Operator.meaning g.O.Operator.local_is g.O.Operator.shared_is t c.args.worker c.args.node (fruit.Stream c.args.part c.args.out c.args.rest)) (sym c.self.view_is) (record { worker = c.requires.worker; due = c.requires.due; kept = c.requires.kept }) in
    let edge = subst (λ (xs : List NodeInfo). (d : NodeInfo) → c.first_input-edge.result ≡ (slice_index_or xs (c.args.node - 1) d).first) c.deref.ensures.value c.first_input-edge.ensures in
    stream_room_out _ _ _ (given_by p.plan.nodes p.sources p.setting) p.history.items p.infos.items p.stages.items p.queues.items _ _ p.seats.items p.failed p.flying p.room _ c.args.worker c.args.node c.first_input-edge.result c.args.part c.args.out c.args.rest c.self.invariant b edge (record { none = c.put_rest.ensures.none; some = c.put_rest.ensures.some })

pub invariant_of-self : goal.invariant_of-self
invariant_of-self g c =
    let p = c.self.inside in
    let b = subst (λ t. Brings g.O.Operator.meaning g.O.Operator.local_is g.O.Operator.shared_is t c.args.worker c.args.node (fruit.Stream c.args.part c.args.out c.args.rest)) (sym c.self.view_is) (record { worker = c.requires.worker; due = c.requires.due; kept = c.requires.kept }) in
    let edge = subst (λ (xs : List NodeInfo). (d : NodeInfo) → c.first_input-edge.result ≡ (slice_index_or xs (c.args.node - 1) d).first) c.deref.ensures.value c.first_input-edge.ensures in
    let made = c.depart.ensures in
    rw made.history
    (stream_delivered _ _ _ (given_by p.plan.nodes p.sources p.setting) p.history.items p.infos.items p.stages.items _ p.queues.items _ _ _ _ p.seats.items _ p.failed p.flying _ p.room _ _ c.args.worker c.args.node c.first_input-edge.result c.args.part c.args.out c.args.rest c.self.invariant b edge made.seats made.stages c.put_share.ensures (record { none = c.put_rest.ensures.none; some = c.put_rest.ensures.some }) c.put_back.ensures made.flying made.capacity)
