use Rattle.std.proofs.Common.{◌≡◌, ◌≤◌, sym, subst, arith}
use Rattle.plan_machine.specs.Enabled.{Enabled}
use Rattle.plan_machine.specs.declared.entry.Entry.TheVariants.{Claim}
use Rattle.plan_store.specs.Told.{Told, given_by, plan_of, state_of}
use Rattle.run_state.specs.Claiming.{IsShareOf, IsOldest, reads_from}
use Rattle.run_state.proofs.Claimed.{seat_in, entering, share_of, front_in, oldest_of, stands_batch}
use Rattle.run_state.proofs.state.RunState.take_batch.Goals as goal

pub take_share-share-requires-clause-seat : goal.take_share-share-requires-clause-seat
take_share-share-requires-clause-seat g c =
    let p = c.self.inside in
    let t : Told = record { given = given_by p.plan.nodes p.sources p.setting; history = p.history.items; room = p.room } in
    let can = subst (λ x. Enabled (plan_of x.given) (state_of x) (Claim c.args.worker c.args.flight.node c.args.flight.job c.args.flight.number)) (sym c.self.view_is) c.requires.enabled in
    seat_in _ _ _ t p.infos.items p.stages.items p.queues.items _ p.seats.items p.failed p.flying _ c.self.invariant c.args.worker c.args.flight can

pub overflow_sub-edge : goal.overflow_sub-edge
overflow_sub-edge g c =
    let p = c.self.inside in
    let t : Told = record { given = given_by p.plan.nodes p.sources p.setting; history = p.history.items; room = p.room } in
    let can = subst (λ x. Enabled (plan_of x.given) (state_of x) (Claim c.args.worker c.args.flight.node c.args.flight.job c.args.flight.number)) (sym c.self.view_is) c.requires.enabled in
    let is = subst (λ x. c.args.edge ≡ reads_from (plan_of x.given) c.args.flight.node ((state_of x).phase c.args.flight.node)) (sym c.self.view_is) c.requires.edge in
    (front_in _ _ _ t p.infos.items p.stages.items p.queues.items _ p.seats.items p.failed p.flying _ c.self.invariant c.args.worker c.args.flight can c.requires.takes c.args.edge is).0

pub take_front-waiting-requires-clause-place : goal.take_front-waiting-requires-clause-place
take_front-waiting-requires-clause-place g c =
    let p = c.self.inside in
    let t : Told = record { given = given_by p.plan.nodes p.sources p.setting; history = p.history.items; room = p.room } in
    let can = subst (λ x. Enabled (plan_of x.given) (state_of x) (Claim c.args.worker c.args.flight.node c.args.flight.job c.args.flight.number)) (sym c.self.view_is) c.requires.enabled in
    let is = subst (λ x. c.args.edge ≡ reads_from (plan_of x.given) c.args.flight.node ((state_of x).phase c.args.flight.node)) (sym c.self.view_is) c.requires.edge in
    let lt = (front_in _ _ _ t p.infos.items p.stages.items p.queues.items _ p.seats.items p.failed p.flying _ c.self.invariant c.args.worker c.args.flight can c.requires.takes c.args.edge is).1 in omega arith

pub take_front-waiting-requires-clause-some : goal.take_front-waiting-requires-clause-some
take_front-waiting-requires-clause-some g c =
    let p = c.self.inside in
    let t : Told = record { given = given_by p.plan.nodes p.sources p.setting; history = p.history.items; room = p.room } in
    let can = subst (λ x. Enabled (plan_of x.given) (state_of x) (Claim c.args.worker c.args.flight.node c.args.flight.job c.args.flight.number)) (sym c.self.view_is) c.requires.enabled in
    let is = subst (λ x. c.args.edge ≡ reads_from (plan_of x.given) c.args.flight.node ((state_of x).phase c.args.flight.node)) (sym c.self.view_is) c.requires.edge in
    (front_in _ _ _ t p.infos.items p.stages.items p.queues.items _ p.seats.items p.failed p.flying _ c.self.invariant c.args.worker c.args.flight can c.requires.takes c.args.edge is).2

pub take_front-waiting-requires-clause-count : goal.take_front-waiting-requires-clause-count
take_front-waiting-requires-clause-count g c =
    let p = c.self.inside in
    let t : Told = record { given = given_by p.plan.nodes p.sources p.setting; history = p.history.items; room = p.room } in
    let can = subst (λ x. Enabled (plan_of x.given) (state_of x) (Claim c.args.worker c.args.flight.node c.args.flight.job c.args.flight.number)) (sym c.self.view_is) c.requires.enabled in
    let is = subst (λ x. c.args.edge ≡ reads_from (plan_of x.given) c.args.flight.node ((state_of x).phase c.args.flight.node)) (sym c.self.view_is) c.requires.edge in
    (front_in _ _ _ t p.infos.items p.stages.items p.queues.items _ p.seats.items p.failed p.flying _ c.self.invariant c.args.worker c.args.flight can c.requires.takes c.args.edge is).3

pub enter-requires : goal.enter-requires
enter-requires g c =
    let p = c.self.inside in
    let t : Told = record { given = given_by p.plan.nodes p.sources p.setting; history = p.history.items; room = p.room } in
    let can = subst (λ x. Enabled (plan_of x.given) (state_of x) (Claim c.args.worker c.args.flight.node c.args.flight.job c.args.flight.number)) (sym c.self.view_is) c.requires.enabled in
    let two : 2 ≤ p.room = subst (λ x. 2 ≤ x.room) (sym c.self.view_is) c.requires.room in
    entering _ _ _ t p.infos.items p.stages.items p.queues.items _ p.seats.items p.failed p.flying _ c.self.invariant c.args.worker c.args.flight can two

pub invariant_of-self : goal.invariant_of-self
invariant_of-self g c =
    let p = c.self.inside in
    let t : Told = record { given = given_by p.plan.nodes p.sources p.setting; history = p.history.items; room = p.room } in
    let can = subst (λ x. Enabled (plan_of x.given) (state_of x) (Claim c.args.worker c.args.flight.node c.args.flight.job c.args.flight.number)) (sym c.self.view_is) c.requires.enabled in
    let two : 2 ≤ p.room = subst (λ x. 2 ≤ x.room) (sym c.self.view_is) c.requires.room in
    let is = subst (λ x. c.args.edge ≡ reads_from (plan_of x.given) c.args.flight.node ((state_of x).phase c.args.flight.node)) (sym c.self.view_is) c.requires.edge in
    rw c.enter.ensures.history (stands_batch _ _ _ t p.infos.items p.stages.items p.queues.items _ p.seats.items p.failed p.flying _ c.self.invariant c.args.worker c.args.flight can c.args.edge c.take_front-waiting.result _ _ _ _ _ _ _ c.requires.takes c.requires.oldest is c.take_front-waiting.ensures c.enter.ensures.stages c.take_share-share.ensures.left c.enter.ensures.seats c.enter.ensures.flying (omega arith) c.enter.ensures.capacity)

pub returns-clause-share : goal.returns-clause-share
returns-clause-share g c =
    let p = c.self.inside in
    let t : Told = record { given = given_by p.plan.nodes p.sources p.setting; history = p.history.items; room = p.room } in
    let can = subst (λ x. Enabled (plan_of x.given) (state_of x) (Claim c.args.worker c.args.flight.node c.args.flight.job c.args.flight.number)) (sym c.self.view_is) c.requires.enabled in
    subst (λ x. IsShareOf g.O.Operator.meaning g.O.Operator.local_is g.O.Operator.shared_is x c.args.worker c.args.flight.node c.take_share-share.result) c.self.view_is (share_of _ _ _ t p.infos.items p.stages.items p.queues.items _ p.seats.items p.failed p.flying _ c.self.invariant c.args.worker c.args.flight can c.take_share-share.result c.take_share-share.ensures.taken)

pub returns-clause-waiting : goal.returns-clause-waiting
returns-clause-waiting g c =
    let p = c.self.inside in
    let t : Told = record { given = given_by p.plan.nodes p.sources p.setting; history = p.history.items; room = p.room } in
    let can = subst (λ x. Enabled (plan_of x.given) (state_of x) (Claim c.args.worker c.args.flight.node c.args.flight.job c.args.flight.number)) (sym c.self.view_is) c.requires.enabled in
    let is = subst (λ x. c.args.edge ≡ reads_from (plan_of x.given) c.args.flight.node ((state_of x).phase c.args.flight.node)) (sym c.self.view_is) c.requires.edge in
    subst (λ x. IsOldest x c.args.flight.node c.take_front-waiting.result) c.self.view_is (oldest_of _ _ _ t p.infos.items p.stages.items p.queues.items _ p.seats.items p.failed p.flying _ c.self.invariant c.args.worker c.args.flight can c.requires.takes c.args.edge is c.take_front-waiting.result _ c.take_front-waiting.ensures)
