use Rattle.task_core.proofs.Fronts.{fronts_same, fronts_reserved}
use Rattle.task_core.proofs.state.PlanState.reserve.Goals as goal

pub invariant_of-self : goal.invariant_of-self
invariant_of-self g c =
    let p = c.self.inside in
    fronts_same p.run p.fronts.items c.reserve_fronts.new.fronts.items c.reserve_fronts.ensures.counts c.self.invariant

pub invariant_of-self-2 : goal.invariant_of-self-2
invariant_of-self-2 g c =
    let p = c.self.inside in
    fronts_reserved p.run c.reserve.new.self c.due_entries.result p.fronts.items c.reserve_fronts.new.fronts.items c.reserve.result c.due_entries.ensures
    c.reserve_fronts.ensures.counts c.in_ok-reserve_fronts.ensures.room c.reserve.ensures.ok c.reserve.ensures.err c.self.invariant
