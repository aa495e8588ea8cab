use Rattle.std.proofs.Common.{map, vec_capacity, subst}
use Rattle.run_state.specs.Stored.{Stands}
use Rattle.run_state.proofs.Choices.{input_node}
use Rattle.run_state.proofs.Dues.{finish_stands}
use Rattle.run_state.proofs.state.RunState.may_finish.Goals as goal

pub is_ended-ended-requires-after_bounds : goal.is_ended-ended-requires-after_bounds
is_ended-ended-requires-after_bounds g c κs within =
    let p = c.self.inside in
    let h = subst (λ t. Stands g.O.Operator.meaning g.O.Operator.local_is g.O.Operator.shared_is t.given t.history p.infos.items p.stages.items p.queues.items (map (λ row. row.items) p.shares.items) p.seats.items p.failed p.flying t.room (vec_capacity p.history)) c.self.view_is c.self.invariant in
    input_node _ _ _ _ _ _ _ _ _ _ _ _ _ _ h c.requires.sound c.args.node c.requires.node c.index.result.now c.index.ensures c.index-2.result.now c.index-2.ensures c.input_of-input.result c.input_of-input.ensures

pub returns : goal.returns
returns g c =
    let p = c.self.inside in
    let h = subst (λ t. Stands g.O.Operator.meaning g.O.Operator.local_is g.O.Operator.shared_is t.given t.history p.infos.items p.stages.items p.queues.items (map (λ row. row.items) p.shares.items) p.seats.items p.failed p.flying t.room (vec_capacity p.history)) c.self.view_is c.self.invariant in
    finish_stands _ _ _ _ _ _ _ _ _ _ _ _ _ _ h c.requires.sound c.args.node c.requires.node c.index.result.now c.index.ensures c.index-2.result.now c.index-2.ensures c.input_of-input.result c.is_ended-ended.result c.may_end.result c.input_of-input.ensures c.is_ended-ended.ensures c.may_end.ensures
