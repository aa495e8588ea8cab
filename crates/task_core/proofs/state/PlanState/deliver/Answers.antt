use Rattle.std.proofs.Common.{◌≡◌, cond, None, sym, subst}
use Rattle.plan_machine.specs.Plan.{IsNode, IsWorker}
use Rattle.plan_store.specs.Told.{Told, plan_of}
use Rattle.run_state.specs.Calls.{IsDue}
use Rattle.run_state.specs.Delivering.{is_dropped}
use Rattle.task_core.specs.Fronts.{FrontsStand, counted_of}
use Rattle.task_core.proofs.Fronts.{countable}
use Rattle.task_core.proofs.Delivered.{fronts_delivered}
use Rattle.task_core.proofs.state.PlanState.deliver.Goals as goal

pub count_fold-requires : goal.count_fold-requires
count_fold-requires g c x some =
    let M = g.O.Operator.meaning in
    let L = g.O.Operator.local_is in
    let H = g.O.Operator.shared_is in
    let p = c.self.inside in
    let worker = subst (λ (u : Told). IsWorker (plan_of u.given) c.args.worker) (sym c.self.view_is) c.requires.worker in
    let node = subst (λ (u : Told). IsNode (plan_of u.given) c.args.done.node) (sym c.self.view_is) c.to_count-folded.ensures.node in
    let due = subst (λ (u : Told). IsDue M L H u c.args.worker c.args.done.node c.args.done.fruit) (sym c.self.view_is) c.requires.due in
    countable p.run c.args.worker c.args.done.node due.task p.fronts.items worker node due.flies c.self.invariant

pub invariant_of-self : goal.invariant_of-self
invariant_of-self g c =
    let M = g.O.Operator.meaning in
    let L = g.O.Operator.local_is in
    let H = g.O.Operator.shared_is in
    let p = c.self.inside in
    let worker = subst (λ (u : Told). IsWorker (plan_of u.given) c.args.worker) (sym c.self.view_is) c.requires.worker in
    let node = subst (λ (u : Told). IsNode (plan_of u.given) c.args.done.node) (sym c.self.view_is) c.to_count-folded.ensures.node in
    let due = subst (λ (u : Told). IsDue M L H u c.args.worker c.args.done.node c.args.done.fruit) (sym c.self.view_is) c.requires.due in
    let counted = subst (λ (u : Told). c.to_count-folded.result ≡ cond (is_dropped u c.args.done.node) None (counted_of c.args.done.fruit)) (sym c.self.view_is) c.to_count-folded.ensures.counted in
    subst (λ (u : Told). FrontsStand u c.count_fold.new.fronts.items) (sym c.deliver.ensures)
    (fronts_delivered M L H p.run c.args.worker c.args.done.node c.args.done.fruit c.to_count-folded.result p.fronts.items c.count_fold.new.fronts.items worker node due counted c.count_fold.ensures.none c.count_fold.ensures.some c.self.invariant)
