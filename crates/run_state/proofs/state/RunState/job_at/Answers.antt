use Rattle.std.proofs.Common.{map, vec_capacity, None, Some, sym, subst, refl, ◌∙◌}
use Rattle.plan_store.specs.Told.{plan_of, state_of}
use Rattle.run_state.specs.Stored.{Stands}
use Rattle.run_state.proofs.Choices.{input_node, job_stands, number_is}
use Rattle.run_state.proofs.state.RunState.job_at.Goals as goal

pub waits-waits-requires-after_bounds : goal.waits-waits-requires-after_bounds
waits-waits-requires-after_bounds g c κs within =
    let p = c.self.inside in
    let h = subst (λ t. Stands g.O.Operator.meaning g.O.Operator.local_is g.O.Operator.shared_is t.given t.history p.infos.items p.stages.items p.queues.items (map (λ row. row.items) p.shares.items) p.seats.items p.failed p.flying t.room (vec_capacity p.history)) c.self.view_is c.self.invariant in
    input_node _ _ _ _ _ _ _ _ _ _ _ _ _ _ h c.requires.sound c.args.node c.requires.node c.index.result.now c.index.ensures c.index-2.result.now c.index-2.ensures c.input_of-input.result c.input_of-input.ensures

pub is_ended-ended-requires-after_bounds : goal.is_ended-ended-requires-after_bounds
is_ended-ended-requires-after_bounds g c κs within =
    let p = c.self.inside in
    let h = subst (λ t. Stands g.O.Operator.meaning g.O.Operator.local_is g.O.Operator.shared_is t.given t.history p.infos.items p.stages.items p.queues.items (map (λ row. row.items) p.shares.items) p.seats.items p.failed p.flying t.room (vec_capacity p.history)) c.self.view_is c.self.invariant in
    input_node _ _ _ _ _ _ _ _ _ _ _ _ _ _ h c.requires.sound c.args.node c.requires.node c.index.result.now c.index.ensures c.index-2.result.now c.index-2.ensures c.input_of-input.result c.input_of-input.ensures

pub returns-in-Some-clause-some : goal.returns-in-Some-clause-some
returns-in-Some-clause-some g c =
    let p = c.self.inside in
    let h = subst (λ t. Stands g.O.Operator.meaning g.O.Operator.local_is g.O.Operator.shared_is t.given t.history p.infos.items p.stages.items p.queues.items (map (λ row. row.items) p.shares.items) p.seats.items p.failed p.flying t.room (vec_capacity p.history)) c.self.view_is c.self.invariant in
    let j = job_stands _ _ _ _ _ _ _ _ _ _ _ _ _ _ h c.requires.sound c.args.node c.requires.node c.index.result.now c.index.ensures c.index-2.result.now c.index-2.ensures c.input_of-input.result c.waits-waits.result c.is_ended-ended.result c.is_paused-paused.result (Some c.in-Some.job) c.input_of-input.ensures c.waits-waits.ensures c.is_ended-ended.ensures c.is_paused-paused.ensures (sym c.in-Some.is ∙ c.job_of.ensures) in
    (refl, number_is (plan_of c.args.self.now.given) (state_of c.args.self.now) c.args.node c.in-Some.job _ _ c.number_of.ensures j)

pub returns-in-None-clause-none : goal.returns-in-None-clause-none
returns-in-None-clause-none g c =
    let p = c.self.inside in
    let h = subst (λ t. Stands g.O.Operator.meaning g.O.Operator.local_is g.O.Operator.shared_is t.given t.history p.infos.items p.stages.items p.queues.items (map (λ row. row.items) p.shares.items) p.seats.items p.failed p.flying t.room (vec_capacity p.history)) c.self.view_is c.self.invariant in
    job_stands _ _ _ _ _ _ _ _ _ _ _ _ _ _ h c.requires.sound c.args.node c.requires.node c.index.result.now c.index.ensures c.index-2.result.now c.index-2.ensures c.input_of-input.result c.waits-waits.result c.is_ended-ended.result c.is_paused-paused.result None c.input_of-input.ensures c.waits-waits.ensures c.is_ended-ended.ensures c.is_paused-paused.ensures (sym c.in-None.is ∙ c.job_of.ensures)
