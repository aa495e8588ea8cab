use Rattle.std.proofs.Common.{◌≤◌, List, sym, subst, arith}
use Rattle.plan_machine.specs.Enabled.{Enabled}
use Rattle.plan_machine.specs.declared.entry.Entry.TheVariants.{Stop}
use Rattle.plan_store.specs.declared.stage.NodeInfo.{NodeInfo}
use Rattle.plan_store.specs.Told.{given_by, plan_of, state_of}
use Rattle.run_state.specs.Stopping.{AreEnded, AreEmptied}
use Rattle.run_state.proofs.Stopped.{after_stop}
use Rattle.run_state.proofs.state.RunState.stop.Goals as goal

pub invariant_of-self : goal.invariant_of-self
invariant_of-self g c =
    let p = c.self.inside in
    let can = subst (λ t. Enabled (plan_of t.given) (state_of t) (Stop c.args.node)) (sym c.self.view_is) c.requires.enabled in
    let room : 1 ≤ p.room = subst (λ t. 1 ≤ t.room) (sym c.self.view_is) c.requires.room in
    let ends = subst (λ (infos : List NodeInfo). AreEnded infos c.args.node p.stages.items c.end_below.new.stages.items) c.deref.ensures.value c.end_below.ensures.stages in
    let empties = subst (λ (infos : List NodeInfo). AreEmptied infos c.args.node p.queues.items c.end_below.new.queues.items) c.deref.ensures.value c.end_below.ensures.queues in
    rw c.push_reserved.ensures.items
    (after_stop _ _ _ (given_by p.plan.nodes p.sources p.setting) p.history.items p.infos.items p.stages.items _ p.queues.items _ _ p.seats.items p.failed p.flying p.room _ _ _ c.args.node c.self.invariant can ends empties (omega arith) c.push_reserved.ensures.capacity)
