use Rattle.std.proofs.Common.{◌≡◌, ◌<◌, ◌-◌, ◌||◌, Bool, length, sym, ap, subst, ◌∙◌, arith}
use Rattle.plan_machine.specs.After.{is_done}
use Rattle.plan_machine.specs.Plan.{IsNode}
use Rattle.plan_store.specs.Told.{given_by, plan_of, state_of}
use Rattle.plan_store.specs.declared.stage.Stage.{Stage}
use Rattle.run_state.specs.Delivering.{IsFlying, is_dropped}
use Rattle.run_state.proofs.Delivering.{drops_by}
use Rattle.run_state.proofs.state.RunState.drops.Goals as goal

pub overflow_sub-node : goal.overflow_sub-node
overflow_sub-node g c =
    let p = c.self.inside in
    let due = subst (λ t. IsFlying t c.args.worker c.args.node) (sym c.self.view_is) c.requires.flying in
    let by = drops_by _ _ _ (given_by p.plan.nodes p.sources p.setting) p.history.items p.infos.items p.stages.items p.queues.items _ p.seats.items p.failed p.flying p.room _ c.args.worker c.args.node due.task c.self.invariant due.flies due.at_node in
    by.0.0

pub index-requires : goal.index-requires
index-requires g c =
    let p = c.self.inside in
    let due = subst (λ t. IsFlying t c.args.worker c.args.node) (sym c.self.view_is) c.requires.flying in
    let by = drops_by _ _ _ (given_by p.plan.nodes p.sources p.setting) p.history.items p.infos.items p.stages.items p.queues.items _ p.seats.items p.failed p.flying p.room _ c.args.worker c.args.node due.task c.self.invariant due.flies due.at_node in
    let within : c.args.node - 1 < length p.stages.items = by.1 in
    let same = p.stages.ok.0 in
    omega arith

pub returns-else-self-clause-dropped : goal.returns-else-self-clause-dropped
returns-else-self-clause-dropped g c =
    let p = c.self.inside in
    let due = subst (λ t. IsFlying t c.args.worker c.args.node) (sym c.self.view_is) c.requires.flying in
    let by = drops_by _ _ _ (given_by p.plan.nodes p.sources p.setting) p.history.items p.infos.items p.stages.items p.queues.items _ p.seats.items p.failed p.flying p.room _ c.args.worker c.args.node due.task c.self.invariant due.flies due.at_node in
    let st = c.index.result.now in
    let phase = ap (λ (x : Stage). x.phase) c.index.ensures ∙ by.2 st in
    let sound = sym c.self.invariant.stored.failed_is ∙ c.if-self.false in
    subst (λ t. c.has_ended.result ≡ is_dropped t c.args.node) c.self.view_is
    (c.has_ended.ensures ∙ ap is_done phase ∙ sym (ap (λ (b : Bool). b || is_done ((state_of (record { given = given_by p.plan.nodes p.sources p.setting; history = p.history.items; room = p.room })).phase c.args.node)) sound))

pub returns-then-self-clause-node : goal.returns-then-self-clause-node
returns-then-self-clause-node g c =
    let p = c.self.inside in
    let due = subst (λ t. IsFlying t c.args.worker c.args.node) (sym c.self.view_is) c.requires.flying in
    let by = drops_by _ _ _ (given_by p.plan.nodes p.sources p.setting) p.history.items p.infos.items p.stages.items p.queues.items _ p.seats.items p.failed p.flying p.room _ c.args.worker c.args.node due.task c.self.invariant due.flies due.at_node in
    subst (λ t. IsNode (plan_of t.given) c.args.node) c.self.view_is by.0

pub returns-else-self-clause-node : goal.returns-else-self-clause-node
returns-else-self-clause-node g c =
    let p = c.self.inside in
    let due = subst (λ t. IsFlying t c.args.worker c.args.node) (sym c.self.view_is) c.requires.flying in
    let by = drops_by _ _ _ (given_by p.plan.nodes p.sources p.setting) p.history.items p.infos.items p.stages.items p.queues.items _ p.seats.items p.failed p.flying p.room _ c.args.worker c.args.node due.task c.self.invariant due.flies due.at_node in
    subst (λ t. IsNode (plan_of t.given) c.args.node) c.self.view_is by.0
