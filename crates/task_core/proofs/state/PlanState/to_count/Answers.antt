use Rattle.std.proofs.Common.{◌≡◌, true, false, refl, sym, subst, ◌∙◌}
use Rattle.plan_machine.specs.Plan.{IsNode}
use Rattle.plan_store.specs.Told.{Told, plan_of}
use Rattle.run_state.specs.Delivering.{IsFlying, is_dropped}
use Rattle.task_core.proofs.state.PlanState.to_count.Goals as goal

pub drops-requires-clause-flying : goal.drops-requires-clause-flying
drops-requires-clause-flying g c κs within =
    subst (λ (u : Told). IsFlying u c.args.worker c.args.done.now.node) (sym c.self.view_is) (record { task = c.requires.task; flies = c.requires.flies; at_node = c.requires.at_node })

pub returns-then-drops-clause-counted : goal.returns-then-drops-clause-counted
returns-then-drops-clause-counted g c =
    let dropped : is_dropped c.args.self.now c.args.done.now.node ≡ true = subst (λ (u : Told). is_dropped u c.args.done.now.node ≡ true) c.self.view_is (sym c.drops.ensures.dropped ∙ c.if-drops.true) in
    rw dropped refl

pub returns-then-drops-clause-node : goal.returns-then-drops-clause-node
returns-then-drops-clause-node g c = subst (λ (u : Told). IsNode (plan_of u.given) c.args.done.now.node) c.self.view_is c.drops.ensures.node

pub returns-clause-counted : goal.returns-clause-counted
returns-clause-counted g c =
    let kept : is_dropped c.args.self.now c.args.done.now.node ≡ false = subst (λ (u : Told). is_dropped u c.args.done.now.node ≡ false) c.self.view_is (sym c.drops.ensures.dropped ∙ c.if-drops.false) in
    rw kept c.counted.ensures

pub returns-clause-node : goal.returns-clause-node
returns-clause-node g c = subst (λ (u : Told). IsNode (plan_of u.given) c.args.done.now.node) c.self.view_is c.drops.ensures.node
