use Rattle.std.proofs.Common.{◌≤◌, sym, subst}
use Rattle.plan_store.specs.Told.{Told, plan_of, state_of}
use Rattle.plan_machine.specs.declared.entry.Entry.TheVariants.{Finish}
use Rattle.task_core.specs.Fronts.{FrontsStand}
use Rattle.task_core.proofs.Fronts.{passes_finish, fronts_stay}
use Rattle.task_core.proofs.state.PlanState.finish.Goals as goal

pub invariant_of-self : goal.invariant_of-self
invariant_of-self g c =
    let p = c.self.inside in
    let room : 1 ≤ p.run.room = subst (λ (t : Told). 1 ≤ t.room) (sym c.self.view_is) c.requires.room in
    subst (λ (t : Told). FrontsStand t p.fronts.items) (sym c.finish.ensures)
    (fronts_stay p.run (Finish c.args.node) 1 p.fronts.items room (passes_finish (plan_of p.run.given) (state_of p.run) c.args.node) c.self.invariant)
