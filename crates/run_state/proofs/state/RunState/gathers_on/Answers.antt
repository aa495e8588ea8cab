use Rattle.std.proofs.Common.{map, vec_capacity, subst}
use Rattle.run_state.specs.Stored.{Stands}
use Rattle.run_state.proofs.Choices.{input_node, gathers_stand}
use Rattle.run_state.proofs.state.RunState.gathers_on.Goals as goal

pub is_done-ended-requires-after_bounds : goal.is_done-ended-requires-after_bounds
is_done-ended-requires-after_bounds g c κs within =
    let p = c.self.inside in
    let h = subst (λ t. Stands g.O.Operator.meaning g.O.Operator.local_is g.O.Operator.shared_is t.given t.history p.infos.items p.stages.items p.queues.items (map (λ row. row.items) p.shares.items) p.seats.items p.failed p.flying t.room (vec_capacity p.history)) c.self.view_is c.self.invariant in
    input_node _ _ _ _ _ _ _ _ _ _ _ _ _ _ h c.requires.sound c.args.node c.requires.node c.index.result.now c.index.ensures c.index-2.result.now c.index-2.ensures c.input_of-input.result c.input_of-input.ensures

pub returns : goal.returns
returns g c =
    let p = c.self.inside in
    let h = subst (λ t. Stands g.O.Operator.meaning g.O.Operator.local_is g.O.Operator.shared_is t.given t.history p.infos.items p.stages.items p.queues.items (map (λ row. row.items) p.shares.items) p.seats.items p.failed p.flying t.room (vec_capacity p.history)) c.self.view_is c.self.invariant in
    gathers_stand _ _ _ _ _ _ _ _ _ _ _ _ _ _ h c.requires.sound c.args.node c.requires.node c.index.result.now c.index.ensures c.index-2.result.now c.index-2.ensures c.input_of-input.result c.is_done-ended.result c.is_gathering.result c.input_of-input.ensures c.is_done-ended.ensures c.is_gathering.ensures
