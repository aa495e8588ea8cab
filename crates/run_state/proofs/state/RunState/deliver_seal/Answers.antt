use Rattle.std.proofs.Common.{◌≡◌, ◌<◌, ◌-◌, List, length, sym, ap, subst, ◌∙◌, slice_index_or}
use Rattle.std.proofs.lemmas.List.{length-set}
use Rattle.task_work.specs.declared.work.Fruit.TheVariants as fruit
use Rattle.plan_store.specs.Told.{given_by}
use Rattle.plan_store.specs.declared.stage.Stage.{Stage}
use Rattle.plan_store.specs.declared.stage.NodeInfo.{NodeInfo}
use Rattle.plan_store.specs.Putting.{HasPlace}
use Rattle.plan_store.proofs.At.{some_of}
use Rattle.run_state.proofs.Bringing.{Brings, places}
use Rattle.run_state.proofs.Delivering.{departing}
use Rattle.run_state.proofs.BringSeal.{seal_delivered}
use Rattle.run_state.proofs.state.RunState.deliver_seal.Goals as goal

pub shape_at-requires : goal.shape_at-requires
shape_at-requires g c =
    let p = c.self.inside in
    let b = subst (λ t. Brings g.O.Operator.meaning g.O.Operator.local_is g.O.Operator.shared_is t c.args.worker c.args.node (fruit.Seal c.args.row c.args.count)) (sym c.self.view_is) (record { worker = c.requires.worker; due = c.requires.due; kept = c.requires.kept }) in
    let at = places _ _ _ (given_by p.plan.nodes p.sources p.setting) p.history.items p.infos.items p.stages.items p.queues.items _ p.seats.items p.failed p.flying p.room _ c.args.worker c.args.node b.due.task c.self.invariant b.due.flies b.due.at_node in
    subst (λ (xs : List NodeInfo). HasPlace xs c.args.node) (sym c.deref.ensures.value) at.infos_at

pub depart-requires : goal.depart-requires
depart-requires g c =
    let p = c.self.inside in
    let b = subst (λ t. Brings g.O.Operator.meaning g.O.Operator.local_is g.O.Operator.shared_is t c.args.worker c.args.node (fruit.Seal c.args.row c.args.count)) (sym c.self.view_is) (record { worker = c.requires.worker; due = c.requires.due; kept = c.requires.kept }) in
    departing _ _ _ (given_by p.plan.nodes p.sources p.setting) p.history.items p.infos.items p.stages.items p.queues.items _ p.seats.items p.failed p.flying p.room _ c.args.worker c.args.node b.due.task c.self.invariant b.worker b.due.flies b.due.at_node

pub put_row-requires : goal.put_row-requires
put_row-requires g c =
    let p = c.self.inside in
    let b = subst (λ t. Brings g.O.Operator.meaning g.O.Operator.local_is g.O.Operator.shared_is t c.args.worker c.args.node (fruit.Seal c.args.row c.args.count)) (sym c.self.view_is) (record { worker = c.requires.worker; due = c.requires.due; kept = c.requires.kept }) in
    let at = places _ _ _ (given_by p.plan.nodes p.sources p.setting) p.history.items p.infos.items p.stages.items p.queues.items _ p.seats.items p.failed p.flying p.room _ c.args.worker c.args.node b.due.task c.self.invariant b.due.flies b.due.at_node in
    at.rows_at

pub begin_phase-requires : goal.begin_phase-requires
begin_phase-requires g c =
    let p = c.self.inside in
    let b = subst (λ t. Brings g.O.Operator.meaning g.O.Operator.local_is g.O.Operator.shared_is t c.args.worker c.args.node (fruit.Seal c.args.row c.args.count)) (sym c.self.view_is) (record { worker = c.requires.worker; due = c.requires.due; kept = c.requires.kept }) in
    let at = places _ _ _ (given_by p.plan.nodes p.sources p.setting) p.history.items p.infos.items p.stages.items p.queues.items _ p.seats.items p.failed p.flying p.room _ c.args.worker c.args.node b.due.task c.self.invariant b.due.flies b.due.at_node in
    let d = some_of (c.args.node - 1) p.stages.items at.stages_at.1 in
    let same : length c.depart.new.stages.items ≡ length p.stages.items = ap (λ (xs : List Stage). length xs) (c.depart.ensures.stages d) ∙ length-set p.stages.items (c.args.node - 1) _ in
    (at.stages_at.0, subst (λ m. c.args.node - 1 < m) (sym same) at.stages_at.1)

pub invariant_of-self : goal.invariant_of-self
invariant_of-self g c =
    let p = c.self.inside in
    let b = subst (λ t. Brings g.O.Operator.meaning g.O.Operator.local_is g.O.Operator.shared_is t c.args.worker c.args.node (fruit.Seal c.args.row c.args.count)) (sym c.self.view_is) (record { worker = c.requires.worker; due = c.requires.due; kept = c.requires.kept }) in
    let made = c.depart.ensures in
    let shape = subst (λ (xs : List NodeInfo). (d : NodeInfo) → c.shape_at.result ≡ (slice_index_or xs (c.args.node - 1) d).shape) c.deref.ensures.value c.shape_at.ensures in
    rw made.history
    (seal_delivered _ _ _ (given_by p.plan.nodes p.sources p.setting) p.history.items p.infos.items p.stages.items _ _ p.queues.items _ _ c.args.row p.seats.items _ p.failed p.flying _ p.room _ _ c.args.worker c.args.node c.args.count _ _ c.self.invariant b shape c.phase_after_seal-phase.ensures made.seats made.stages c.begin_phase.ensures c.put_row.ensures made.flying made.capacity)
