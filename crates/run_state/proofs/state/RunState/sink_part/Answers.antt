use Rattle.std.proofs.Common.{◌-◌, sym, subst, ◌∙◌, arith}
use Rattle.plan_machine.specs.History.{IsEnded}
use Rattle.plan_store.specs.Told.{given_by, plan_of, state_of}
use Rattle.run_state.specs.AtEnd.{IsSinkPart}
use Rattle.run_state.proofs.AtEnd.{sink_slot}
use Rattle.run_state.proofs.state.RunState.sink_part.Goals as goal

pub index-requires-2 : goal.index-requires-2
index-requires-2 g c =
    let p = c.self.inside in
    let ended = subst (λ t. IsEnded (plan_of t.given) (state_of t)) (sym c.self.view_is) c.requires in
    let found = sink_slot g.O.Operator.meaning g.O.Operator.local_is g.O.Operator.shared_is (given_by p.plan.nodes p.sources p.setting) p.history.items p.infos.items p.stages.items p.queues.items p.shares.items p.seats.items p.failed p.flying p.room _ c.self.invariant ended
    c.index.result.now (c.len-sink.result - 1) (let l = c.len-sink.ensures in let ok = p.shares.ok.0 in omega arith) c.index.ensures in
    let some = found.0 in
    let ok = c.index.result.now.ok.0 in
    omega arith

pub part_in-requires : goal.part_in-requires
part_in-requires g c =
    let p = c.self.inside in
    let ended = subst (λ t. IsEnded (plan_of t.given) (state_of t)) (sym c.self.view_is) c.requires in
    let found = sink_slot g.O.Operator.meaning g.O.Operator.local_is g.O.Operator.shared_is (given_by p.plan.nodes p.sources p.setting) p.history.items p.infos.items p.stages.items p.queues.items p.shares.items p.seats.items p.failed p.flying p.room _ c.self.invariant ended
    c.index.result.now (c.len-sink.result - 1) (let l = c.len-sink.ensures in let ok = p.shares.ok.0 in omega arith) c.index.ensures in
    (found.1.0, c.index-2.ensures ∙ found.1.1 c.index-2.result.now)

pub returns : goal.returns
returns g c =
    let p = c.self.inside in
    let ended = subst (λ t. IsEnded (plan_of t.given) (state_of t)) (sym c.self.view_is) c.requires in
    let found = sink_slot g.O.Operator.meaning g.O.Operator.local_is g.O.Operator.shared_is (given_by p.plan.nodes p.sources p.setting) p.history.items p.infos.items p.stages.items p.queues.items p.shares.items p.seats.items p.failed p.flying p.room _ c.self.invariant ended
    c.index.result.now (c.len-sink.result - 1) (let l = c.len-sink.ensures in let ok = p.shares.ok.0 in omega arith) c.index.ensures in
    subst (λ t. IsSinkPart g.O.Operator.meaning g.O.Operator.local_is g.O.Operator.shared_is t c.part_in.result.now) c.self.view_is
    (found.1.2 c.part_in.result.now (sym (c.index-2.ensures ∙ found.1.1 c.index-2.result.now) ∙ c.part_in.ensures))
