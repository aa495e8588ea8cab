use Rattle.std.proofs.Common.{sym, subst, arith}
use Rattle.plan_machine.specs.Enabled.{HasTask}
use Rattle.plan_store.specs.Told.{Told, plan_of, state_of}
use Rattle.plan_machine.specs.declared.entry.Entry.TheVariants.{Fail}
use Rattle.task_core.specs.Fronts.{FrontsStand}
use Rattle.task_core.proofs.Fronts.{passes_fail, fronts_stay}
use Rattle.task_core.proofs.state.PlanState.fail.Goals as goal

pub invariant_of-self : goal.invariant_of-self
invariant_of-self g c =
    let p = c.self.inside in
    let can = subst (λ (t : Told). HasTask (plan_of t.given) (state_of t) c.args.worker) (sym c.self.view_is) c.requires in
    subst (λ (t : Told). FrontsStand t p.fronts.items) (sym c.fail.ensures)
    (fronts_stay p.run (Fail c.args.worker) 0 p.fronts.items (omega arith) (passes_fail (plan_of p.run.given) (state_of p.run) c.args.worker can.1.0 can.0 can.1.1) c.self.invariant)
