use Rattle.std.proofs.Common.{◌≤◌, sym, subst, arith}
use Rattle.plan_machine.specs.Enabled.{Enabled}
use Rattle.plan_machine.specs.declared.entry.Entry.TheVariants.{Claim}
use Rattle.plan_store.specs.Told.{Told, given_by, plan_of, state_of}
use Rattle.run_state.specs.Claiming.{IsRowOf}
use Rattle.run_state.proofs.Claimed.{entering, row_of, stands_all}
use Rattle.run_state.proofs.state.RunState.take_all.Goals as goal

pub enter-requires : goal.enter-requires
enter-requires g c =
    let p = c.self.inside in
    let t : Told = record { given = given_by p.plan.nodes p.sources p.setting; history = p.history.items; room = p.room } in
    let can = subst (λ x. Enabled (plan_of x.given) (state_of x) (Claim c.args.worker c.args.flight.node c.args.flight.job c.args.flight.number)) (sym c.self.view_is) c.requires.enabled in
    let two : 2 ≤ p.room = subst (λ x. 2 ≤ x.room) (sym c.self.view_is) c.requires.room in
    entering _ _ _ t p.infos.items p.stages.items p.queues.items _ p.seats.items p.failed p.flying _ c.self.invariant c.args.worker c.args.flight can two

pub invariant_of-self : goal.invariant_of-self
invariant_of-self g c =
    let p = c.self.inside in
    let t : Told = record { given = given_by p.plan.nodes p.sources p.setting; history = p.history.items; room = p.room } in
    let can = subst (λ x. Enabled (plan_of x.given) (state_of x) (Claim c.args.worker c.args.flight.node c.args.flight.job c.args.flight.number)) (sym c.self.view_is) c.requires.enabled in
    let two : 2 ≤ p.room = subst (λ x. 2 ≤ x.room) (sym c.self.view_is) c.requires.room in
    rw c.enter.ensures.history (stands_all _ _ _ t p.infos.items p.stages.items p.queues.items _ p.seats.items p.failed p.flying _ c.self.invariant c.args.worker c.args.flight can _ _ _ _ _ _ c.requires.all c.enter.ensures.stages c.take_row-row.ensures.left c.enter.ensures.seats c.enter.ensures.flying (omega arith) c.enter.ensures.capacity)

pub returns-clause-row : goal.returns-clause-row
returns-clause-row g c =
    let p = c.self.inside in
    let t : Told = record { given = given_by p.plan.nodes p.sources p.setting; history = p.history.items; room = p.room } in
    let can = subst (λ x. Enabled (plan_of x.given) (state_of x) (Claim c.args.worker c.args.flight.node c.args.flight.job c.args.flight.number)) (sym c.self.view_is) c.requires.enabled in
    subst (λ x. IsRowOf g.O.Operator.meaning g.O.Operator.local_is g.O.Operator.shared_is x c.args.flight.node c.take_row-row.result.items) c.self.view_is (row_of _ _ _ t p.infos.items p.stages.items p.queues.items _ p.seats.items p.failed p.flying _ c.self.invariant c.args.worker c.args.flight can c.requires.all c.take_row-row.result.items c.take_row-row.ensures.taken)
