use Rattle.std.proofs.Common.{◌≡◌, ◌↔◌, ◌-◌, subst, arith}
use Rattle.plan_machine.specs.History.{IsEnded, HasFailed}
use Rattle.plan_store.specs.declared.setting.Ending.TheVariants.{Ended, Failed}
use Rattle.plan_store.specs.Told.{given_by, plan_of, state_of}
use Rattle.run_state.proofs.Outcomes.{ending_is}
use Rattle.run_state.proofs.state.RunState.ended.Goals as goal

pub returns-clause-ended : goal.returns-clause-ended
returns-clause-ended g c =
    let p = c.self.inside in
    let told = ending_is _ _ _ (given_by p.plan.nodes p.sources p.setting) p.history.items p.infos.items p.stages.items p.queues.items _ p.seats.items p.failed p.flying p.room _ (c.len-sink.result - 1) c.index.result.now c.ending_of.result c.self.invariant (omega arith) c.index.ensures c.ending_of.ensures in
    subst (λ t. (c.ending_of.result ≡ Ended) ↔ IsEnded (plan_of t.given) (state_of t)) c.self.view_is told.0

pub returns-clause-failed : goal.returns-clause-failed
returns-clause-failed g c =
    let p = c.self.inside in
    let told = ending_is _ _ _ (given_by p.plan.nodes p.sources p.setting) p.history.items p.infos.items p.stages.items p.queues.items _ p.seats.items p.failed p.flying p.room _ (c.len-sink.result - 1) c.index.result.now c.ending_of.result c.self.invariant (omega arith) c.index.ensures c.ending_of.ensures in
    subst (λ t. (c.ending_of.result ≡ Failed) ↔ HasFailed (plan_of t.given) (state_of t)) c.self.view_is told.1
