use Rattle.std.proofs.Common.{rules, ◌≡◌, map, vec_capacity, subst}
use denote.Enum.Bare.{same_true}
use Rattle.plan_machine.specs.contracts.entry.Phase.{the_type}
use Rattle.run_state.specs.Stored.{Stands}
use Rattle.run_state.proofs.Choices.{input_node}
use Rattle.run_state.proofs.Allowed.{do_stands, not_false}
use Rattle.run_state.proofs.state.RunState.can_do.Goals as goal

pub waiting-waiting-requires-after_bounds : goal.waiting-waiting-requires-after_bounds
waiting-waiting-requires-after_bounds g c κs within =
    let p = c.self.inside in
    let h = subst (λ t. Stands g.O.Operator.meaning g.O.Operator.local_is g.O.Operator.shared_is t.given t.history p.infos.items p.stages.items p.queues.items (map (λ row. row.items) p.shares.items) p.seats.items p.failed p.flying t.room (vec_capacity p.history)) c.self.view_is c.self.invariant in
    input_node _ _ _ _ _ _ _ _ _ _ _ _ _ _ h c.requires.sound c.args.node c.requires.node c.index.result.now c.index.ensures c.index-2.result.now c.index-2.ensures c.input_of-input.result c.input_of-input.ensures

pub is_ended-ended-requires-after_bounds : goal.is_ended-ended-requires-after_bounds
is_ended-ended-requires-after_bounds g c κs within =
    let p = c.self.inside in
    let h = subst (λ t. Stands g.O.Operator.meaning g.O.Operator.local_is g.O.Operator.shared_is t.given t.history p.infos.items p.stages.items p.queues.items (map (λ row. row.items) p.shares.items) p.seats.items p.failed p.flying t.room (vec_capacity p.history)) c.self.view_is c.self.invariant in
    input_node _ _ _ _ _ _ _ _ _ _ _ _ _ _ h c.requires.sound c.args.node c.requires.node c.index.result.now c.index.ensures c.index-2.result.now c.index-2.ensures c.input_of-input.result c.input_of-input.ensures

pub returns : goal.returns
returns g c =
    let p = c.self.inside in
    let at : c.index.result.now.phase ≡ c.phase_for.result = same_true the_type (search rules) _ _ (not_false _ c.if-ne.ensures) in
    let h = subst (λ t. Stands g.O.Operator.meaning g.O.Operator.local_is g.O.Operator.shared_is t.given t.history p.infos.items p.stages.items p.queues.items (map (λ row. row.items) p.shares.items) p.seats.items p.failed p.flying t.room (vec_capacity p.history)) c.self.view_is c.self.invariant in
    do_stands _ _ _ _ _ _ _ _ _ _ _ _ _ _ h c.requires.sound c.args.node c.requires.node c.index.result.now c.index.ensures c.index-2.result.now c.index-2.ensures c.input_of-input.result c.waiting-waiting.result c.is_ended-ended.result c.is_paused-paused.result c.args.job c.args.number c.phase_for.result c.may_do.result c.phase_for.ensures at c.input_of-input.ensures c.waiting-waiting.ensures c.is_ended-ended.ensures c.is_paused-paused.ensures c.may_do.ensures
