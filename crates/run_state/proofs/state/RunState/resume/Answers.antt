use Rattle.std.proofs.Common.{◌≤◌, sym, subst, arith}
use Rattle.plan_machine.specs.Enabled.{Enabled}
use Rattle.plan_machine.specs.declared.entry.Entry.TheVariants.{Resume}
use Rattle.plan_store.specs.Told.{given_by, plan_of, state_of}
use Rattle.run_state.proofs.Resuming.{after_resume}
use Rattle.run_state.proofs.state.RunState.resume.Goals as goal

pub invariant_of-self : goal.invariant_of-self
invariant_of-self g c =
    let p = c.self.inside in
    let can = subst (λ t. Enabled (plan_of t.given) (state_of t) (Resume c.args.edge)) (sym c.self.view_is) c.requires.enabled in
    let room : 1 ≤ p.room = subst (λ t. 1 ≤ t.room) (sym c.self.view_is) c.requires.room in
    rw c.push_reserved.ensures.items
    (after_resume _ _ _ (given_by p.plan.nodes p.sources p.setting) p.history.items p.infos.items p.stages.items p.queues.items _ _ p.seats.items p.failed p.flying p.room _ _ _ c.args.edge c.self.invariant can c.set_paused.ensures (omega arith) c.push_reserved.ensures.capacity)
