use Rattle.std.proofs.Common.{◌≡◌, IfOk, refl, sym, subst, ◌∙◌, arith}
use Rattle.plan_machine.specs.History.{IsHistory}
use Rattle.plan_machine.specs.Driver.{IsDriven}
use Rattle.plan_nodes.specs.Plans.{IsPlan, IsPace}
use Rattle.plan_store.specs.Told.{Given, plan_of}
use Rattle.run_state.specs.Opening.{IsFinished}
use Rattle.worker_run.proofs.Driving.{driven_result}
use Rattle.worker_run.proofs.alone.run.Goals as goal

pub loop-alloc-init : goal.loop-alloc-init
loop-alloc-init g c = record { given = refl; driving = c.requires.driving }

pub turn-requires-clause-plan : goal.turn-requires-clause-plan
turn-requires-clause-plan g c κs within = subst (λ (x : Given). IsPlan x.nodes) (sym c.loop-alloc.invariant.given) c.requires.plan

pub turn-requires-clause-pace : goal.turn-requires-clause-pace
turn-requires-clause-pace g c κs within = subst (λ (x : Given). IsPace x.pace) (sym c.loop-alloc.invariant.given) c.requires.pace

pub turn-requires-clause-driving : goal.turn-requires-clause-driving
turn-requires-clause-driving g c κs within = c.loop-alloc.invariant.driving

pub loop-alloc-smaller : goal.loop-alloc-smaller
loop-alloc-smaller g c =
    let t = c.args.state in
    let went = c.in_ok-turn.ensures in
    let given : c.turn.new.state.given ≡ t.given = went.given ∙ c.loop-alloc.invariant.given in
    let legal = c.driver_is_legal.ensures (plan_of c.turn.new.state.given) c.turn.new.state.history went.driving.driven in
    let here = subst (λ (x : Given). IsHistory (plan_of x) c.turn.new.state.history) given legal in
    let most = c.plans_end.ensures t.given.nodes t.given.tables t.given.pace c.requires.plan c.requires.pace c.turn.new.state.history here in
    let longer = went.longer in
    omega arith

pub loop-alloc-preserved : goal.loop-alloc-preserved
loop-alloc-preserved g c = record { given = c.in_ok-turn.ensures.given ∙ c.loop-alloc.invariant.given; driving = c.in_ok-turn.ensures.driving }

pub returns-clause-finished : goal.returns-clause-finished
returns-clause-finished g c = subst (λ (x : Given). IfOk c.take_rows.result (IsFinished x)) c.loop-alloc.invariant.given c.take_rows.ensures.finished

pub returns-clause-driven : goal.returns-clause-driven
returns-clause-driven g c =
    subst (λ (x : Given). IfOk c.take_rows.result (λ finished. IsDriven (plan_of x) finished.history)) c.loop-alloc.invariant.given
    (driven_result c.take_rows.result c.loop-alloc.state.given c.loop-alloc.state.history c.loop-alloc.invariant.driving.driven c.take_rows.ensures.finished c.take_rows.ensures.history)
