use Rattle.std.proofs.Common.{◌↔◌, ◌≡◌, IsTrue, false, sym, subst, ◌∙◌}
use Rattle.plan_machine.specs.declared.entry.Entry.TheVariants.{Claim, Stop}
use Rattle.plan_machine.specs.Plan.{IsNode, IsWorker}
use Rattle.plan_machine.specs.Enabled.{Enabled}
use Rattle.plan_machine.specs.Driver.{NoneOf}
use Rattle.plan_store.specs.Told.{Told, plan_of, state_of}
use Rattle.task_core.proofs.Choices.{claim_is, stop_first, none_stops, none_enabled}
use Rattle.task_core.proofs.state.PlanState.can_take.Goals as goal

pub returns-then-is_some : goal.returns-then-is_some
returns-then-is_some g c =
    let P = plan_of c.args.self.now.given in
    let s = state_of c.args.self.now in
    none_enabled P s c.args.worker c.args.node c.args.job c.args.number
    (stop_first P s c.first_stop.result (sym c.is_some.ensures ∙ c.if-is_some.true) c.first_stop.ensures.some c.args.worker)

pub returns : goal.returns
returns g c =
    let t = c.self.inside.run in
    let worker = subst (λ (u : Told). IsWorker (plan_of u.given) c.args.worker) (sym c.self.view_is) c.requires.worker in
    let node = subst (λ (u : Told). IsNode (plan_of u.given) c.args.node) (sym c.self.view_is) c.requires.node in
    let sound = subst (λ (u : Told). (state_of u).failed ≡ false) (sym c.self.view_is) c.requires.sound in
    let goes = none_stops (plan_of c.args.self.now.given) (state_of c.args.self.now) c.first_stop.result (sym c.is_some.ensures ∙ c.if-is_some.false) c.first_stop.ensures.none in
    let still = subst (λ (u : Told). NoneOf (plan_of u.given) (state_of u) Stop) (sym c.self.view_is) goes in
    subst (λ (u : Told). IsTrue c.can_do.result ↔ Enabled (plan_of u.given) (state_of u) (Claim c.args.worker c.args.node c.args.job c.args.number)) c.self.view_is
    (claim_is (plan_of t.given) (state_of t) c.args.worker c.args.node c.args.job c.args.number c.can_do.result worker node sound (c.has_task.ensures.0 c.if-has_task.false) still (c.pause_due.ensures.no c.if-pause_due.false) c.can_do.ensures)
