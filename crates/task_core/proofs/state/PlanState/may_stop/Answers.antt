use Rattle.std.proofs.Common.{◌↔◌, ◌≡◌, IsTrue, false, sym, subst, arith}
use Rattle.plan_machine.specs.declared.entry.Entry.TheVariants.{Stop}
use Rattle.plan_machine.specs.Plan.{IsNode}
use Rattle.plan_machine.specs.Enabled.{Enabled}
use Rattle.plan_store.specs.Told.{Told, plan_of, state_of}
use Rattle.run_state.proofs.Held.{held_at}
use Rattle.task_core.specs.Fronts.{FrontStands}
use Rattle.task_core.proofs.Stops.{met_is, stops_met, stops_unmet}
use Rattle.task_core.proofs.state.PlanState.may_stop.Goals as goal

pub returns-then-is_met : goal.returns-then-is_met
returns-then-is_met g c =
    let t = c.self.inside.run in
    let node = subst (λ (u : Told). IsNode (plan_of u.given) c.args.node) (sym c.self.view_is) c.requires.node in
    let size = c.self.invariant.size in
    let up = node.1 in
    let stands = held_at (λ n f. FrontStands (plan_of t.given) (state_of t) t.room n f) c.self.inside.fronts.items c.args.node c.index.result.now c.self.invariant.each node.0 (omega arith) c.index.ensures in
    let met = met_is (plan_of t.given) (state_of t) t.room c.args.node c.index.result.now c.is_met.result stands c.is_met.ensures.fetch c.is_met.ensures.other in
    let sound = subst (λ (u : Told). (state_of u).failed ≡ false) (sym c.self.view_is) c.requires.sound in
    subst (λ (u : Told). IsTrue c.gathers_on.result ↔ Enabled (plan_of u.given) (state_of u) (Stop c.args.node)) c.self.view_is
    (stops_met (plan_of t.given) (state_of t) c.args.node c.is_met.result met c.gathers_on.result node sound c.if-is_met.true c.gathers_on.ensures)

pub returns-else-is_met : goal.returns-else-is_met
returns-else-is_met g c =
    let t = c.self.inside.run in
    let node = subst (λ (u : Told). IsNode (plan_of u.given) c.args.node) (sym c.self.view_is) c.requires.node in
    let size = c.self.invariant.size in
    let up = node.1 in
    let stands = held_at (λ n f. FrontStands (plan_of t.given) (state_of t) t.room n f) c.self.inside.fronts.items c.args.node c.index.result.now c.self.invariant.each node.0 (omega arith) c.index.ensures in
    let met = met_is (plan_of t.given) (state_of t) t.room c.args.node c.index.result.now c.is_met.result stands c.is_met.ensures.fetch c.is_met.ensures.other in
    subst (λ (u : Told). IsTrue c.is_met.result ↔ Enabled (plan_of u.given) (state_of u) (Stop c.args.node)) c.self.view_is
    (stops_unmet (plan_of t.given) (state_of t) c.args.node c.is_met.result met c.if-is_met.false)
