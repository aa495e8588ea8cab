use Rattle.std.proofs.Common.{subst}
use Rattle.plan_machine.specs.declared.entry.Entry.TheVariants.{Pause, Finish, Resume}
use Rattle.plan_machine.specs.Driver.{NoneOf, IsLowest}
use Rattle.plan_store.specs.Told.{Told, plan_of, state_of}
use Rattle.task_core.proofs.Choices.{nothing_due}
use Rattle.task_core.proofs.state.PlanState.upkeep.Goals as goal

pub returns-in-Some-first_pause-clause-some : goal.returns-in-Some-first_pause-clause-some
returns-in-Some-first_pause-clause-some g c = (
  c.in_default.ensures.none,
  subst (λ (u : Told). IsLowest (plan_of u.given) (state_of u) Pause c.in-Some-first_pause.edge) c.self.view_is c.in-Some-first_pause.ensures.some,
)

pub returns-in-Some-first_finish-clause-some : goal.returns-in-Some-first_finish-clause-some
returns-in-Some-first_finish-clause-some g c = (
  c.in_default.ensures.none,
  subst (λ (u : Told). NoneOf (plan_of u.given) (state_of u) Pause) c.self.view_is c.in_default-first_pause.ensures.none,
  subst (λ (u : Told). IsLowest (plan_of u.given) (state_of u) Finish c.in-Some-first_finish.node) c.self.view_is c.in-Some-first_finish.ensures.some,
)

pub returns-in-Some-first_resume-clause-some : goal.returns-in-Some-first_resume-clause-some
returns-in-Some-first_resume-clause-some g c = (
  c.in_default.ensures.none,
  subst (λ (u : Told). NoneOf (plan_of u.given) (state_of u) Pause) c.self.view_is c.in_default-first_pause.ensures.none,
  subst (λ (u : Told). NoneOf (plan_of u.given) (state_of u) Finish) c.self.view_is c.in_default-first_finish.ensures.none,
  subst (λ (u : Told). IsLowest (plan_of u.given) (state_of u) Resume c.in-Some-first_resume.edge) c.self.view_is c.in-Some-first_resume.ensures.some,
)

pub returns-in-None-clause-none : goal.returns-in-None-clause-none
returns-in-None-clause-none g c =
    nothing_due (plan_of c.args.self.now.given) (state_of c.args.self.now) c.in_default.ensures.none
    (subst (λ (u : Told). NoneOf (plan_of u.given) (state_of u) Pause) c.self.view_is c.in_default-first_pause.ensures.none)
    (subst (λ (u : Told). NoneOf (plan_of u.given) (state_of u) Finish) c.self.view_is c.in_default-first_finish.ensures.none)
    (subst (λ (u : Told). NoneOf (plan_of u.given) (state_of u) Resume) c.self.view_is c.in-None.ensures.none)
