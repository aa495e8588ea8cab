use Rattle.std.proofs.Common.{◌≡◌, ℕ, true, None, IfSome, IfNone, sym, subst, ◌∙◌}
use Rattle.plan_machine.specs.declared.entry.Entry.TheVariants.{Stop}
use Rattle.plan_machine.specs.Plan.{IsWorker}
use Rattle.plan_machine.specs.Enabled.{CanPause}
use Rattle.plan_machine.specs.Driver.{IsClaimChoice, NoneOf}
use Rattle.plan_store.specs.Told.{Told, plan_of, state_of}
use Rattle.run_state.specs.Choosing.{NoWork}
use Rattle.task_core.proofs.Choices.{choice_is, stop_first, none_stops, no_work}
use Rattle.task_core.proofs.state.PlanState.choice.Goals as goal

pub returns-then-has_failed-clause-none : goal.returns-then-has_failed-clause-none
returns-then-has_failed-clause-none g c n job k can =
    let failed = subst (λ (u : Told). (state_of u).failed ≡ true) c.self.view_is (sym c.has_failed.ensures ∙ c.if-has_failed.true) in
    let no = sym failed ∙ can.0.sound in
    absurd (cc)

pub returns-then-has_task-clause-none : goal.returns-then-has_task-clause-none
returns-then-has_task-clause-none g c n job k can =
    let free = subst (λ (u : Told). (state_of u).tasks c.args.worker ≡ None) (sym c.self.view_is) can.0.free in
    let no = sym c.if-has_task.true ∙ c.has_task.ensures.1 free in
    absurd (cc)

pub returns-then-is_some-clause-none : goal.returns-then-is_some-clause-none
returns-then-is_some-clause-none g c =
    stop_first (plan_of c.args.self.now.given) (state_of c.args.self.now) c.first_stop.result (sym c.is_some.ensures ∙ c.if-is_some.true) c.first_stop.ensures.some c.args.worker

pub returns-then-pause_due-clause-none : goal.returns-then-pause_due-clause-none
returns-then-pause_due-clause-none g c n job k can =
    let due = subst (λ (u : Told). (e : ℕ) × CanPause (plan_of u.given) (state_of u) e) c.self.view_is (c.pause_due.ensures.yes c.if-pause_due.true) in
    can.0.no_pause due.0 due.1

pub returns-clause-none : goal.returns-clause-none
returns-clause-none g c =
    no_work (plan_of c.args.self.now.given) (state_of c.args.self.now) c.args.worker c.first_work.result
    (subst (λ (u : Told). IfNone c.first_work.result (NoWork (plan_of u.given) (state_of u))) c.self.view_is c.first_work.ensures.none)

pub returns-clause-some : goal.returns-clause-some
returns-clause-some g c =
    let t = c.self.inside.run in
    let worker = subst (λ (u : Told). IsWorker (plan_of u.given) c.args.worker) (sym c.self.view_is) c.requires in
    let goes = none_stops (plan_of c.args.self.now.given) (state_of c.args.self.now) c.first_stop.result (sym c.is_some.ensures ∙ c.if-is_some.false) c.first_stop.ensures.none in
    let still = subst (λ (u : Told). NoneOf (plan_of u.given) (state_of u) Stop) (sym c.self.view_is) goes in
    subst (λ (u : Told). IfSome c.first_work.result (λ f. IsClaimChoice (plan_of u.given) (state_of u) c.args.worker f.node f.job f.number)) c.self.view_is
    (choice_is (plan_of t.given) (state_of t) c.args.worker worker (sym c.has_failed.ensures ∙ c.if-has_failed.false) (c.has_task.ensures.0 c.if-has_task.false) still (c.pause_due.ensures.no c.if-pause_due.false) c.first_work.result c.first_work.ensures.some)
