use Rattle.std.proofs.Common.{◌≤◌, sym, subst}
use Rattle.plan_store.specs.Told.{Told, plan_of, state_of}
use Rattle.plan_machine.specs.declared.entry.Entry.TheVariants.{Resume}
use Rattle.task_core.specs.Fronts.{FrontsStand}
use Rattle.task_core.proofs.Fronts.{passes_resume, fronts_stay}
use Rattle.task_core.proofs.state.PlanState.resume.Goals as goal

pub invariant_of-self : goal.invariant_of-self
invariant_of-self g c =
    let p = c.self.inside in
    let room : 1 ≤ p.run.room = subst (λ (t : Told). 1 ≤ t.room) (sym c.self.view_is) c.requires.room in
    subst (λ (t : Told). FrontsStand t p.fronts.items) (sym c.resume.ensures)
    (fronts_stay p.run (Resume c.args.edge) 1 p.fronts.items room (passes_resume (plan_of p.run.given) (state_of p.run) c.args.edge) c.self.invariant)
