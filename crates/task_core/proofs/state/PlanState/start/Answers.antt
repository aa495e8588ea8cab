use Rattle.std.proofs.Common.{◌≤◌, sym, subst}
use Rattle.plan_store.specs.Told.{Told, plan_of, state_of}
use Rattle.plan_machine.specs.declared.entry.Entry.TheVariants.{Claim}
use Rattle.task_core.specs.Fronts.{FrontsStand}
use Rattle.task_core.proofs.Fronts.{passes_claim, fronts_stay}
use Rattle.task_core.proofs.state.PlanState.start.Goals as goal

pub invariant_of-self : goal.invariant_of-self
invariant_of-self g c =
    let p = c.self.inside in
    let room : 2 ≤ p.run.room = subst (λ (t : Told). 2 ≤ t.room) (sym c.self.view_is) c.requires.room in
    let made = c.start.ensures in
    let ready = made.chosen.0.0 in
    subst (λ (t : Told). FrontsStand t p.fronts.items) (sym made.told)
    (fronts_stay p.run (Claim c.args.worker c.start.result.node made.job made.number) 2 p.fronts.items room
    (passes_claim (plan_of p.run.given) (state_of p.run) c.args.worker c.start.result.node made.job made.number ready.worker ready.free) c.self.invariant)
