use Rattle.std.proofs.Common.{◌≤◌, sym, subst, arith}
use Rattle.plan_machine.specs.Enabled.{Enabled}
use Rattle.plan_machine.specs.declared.entry.Entry.TheVariants.{Finish}
use Rattle.plan_store.specs.Told.{given_by, plan_of, state_of}
use Rattle.run_state.proofs.Finishing.{after_finish}
use Rattle.run_state.proofs.state.RunState.finish.Goals as goal

pub invariant_of-self : goal.invariant_of-self
invariant_of-self g c =
    let p = c.self.inside in
    let can = subst (λ t. Enabled (plan_of t.given) (state_of t) (Finish c.args.node)) (sym c.self.view_is) c.requires.enabled in
    let room : 1 ≤ p.room = subst (λ t. 1 ≤ t.room) (sym c.self.view_is) c.requires.room in
    rw c.push_reserved.ensures.items
    (after_finish _ _ _ (given_by p.plan.nodes p.sources p.setting) p.history.items p.infos.items p.stages.items _ p.queues.items _ p.seats.items p.failed p.flying p.room _ _ _ c.args.node c.self.invariant can c.set_done.ensures (omega arith) c.push_reserved.ensures.capacity)
