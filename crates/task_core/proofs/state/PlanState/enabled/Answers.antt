use Rattle.std.proofs.Common.{◌↔◌, IsTrue, inl, inr, sym, subst}
use Rattle.plan_machine.specs.Enabled.{Enabled, HasTask}
use Rattle.plan_store.specs.Told.{Told, plan_of, state_of}
use Rattle.task_core.proofs.state.PlanState.enabled.Goals as goal

pub returns-in-Deliver : goal.returns-in-Deliver
returns-in-Deliver g c =
    let hand = subst (λ (u : Told). IsTrue c.has_hand.result ↔ HasTask (plan_of u.given) (state_of u) c.in-Deliver.worker) c.self.view_is c.has_hand.ensures in
    elim c.in-Deliver.is [
      | inl e ↦ subst (λ x. IsTrue c.has_hand.result ↔ Enabled (plan_of c.args.self.now.given) (state_of c.args.self.now) x) (sym e) hand
      | inr e ↦ subst (λ x. IsTrue c.has_hand.result ↔ Enabled (plan_of c.args.self.now.given) (state_of c.args.self.now) x) (sym e) hand
    ]
