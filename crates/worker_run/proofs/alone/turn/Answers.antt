use Rattle.std.proofs.Common.{sym, subst, arith}
use Rattle.plan_machine.specs.Plan.{IsWorker}
use Rattle.plan_machine.specs.Driver.{NoUpkeep, CanWork}
use Rattle.plan_store.specs.Told.{plan_of, state_of}
use Rattle.worker_run.specs.Driving.{WentOn, Worked}
use Rattle.worker_run.proofs.Driving.{went_on_upkeep, went_on_work, went_on_ok, from_reserved, driving_reserved, running_reserved}
use Rattle.worker_run.proofs.alone.turn.Goals as goal

pub work-requires-clause-can : goal.work-requires-clause-can
work-requires-clause-can g c κs within =
    let t = c.args.state.now in
    let same = c.in_ok-reserve.ensures.ok in
    let W = c.plans_are_well_formed.ensures.well_formed t.given.nodes t.given.tables t.given.pace c.requires.plan c.requires.pace in
    let none = subst (λ u. NoUpkeep (plan_of u.given) (state_of u)) same c.in-None.ensures.none in
    subst (λ u. CanWork (plan_of u.given) (state_of u) 1) (sym same)
    (c.driver_can_claim.ensures (plan_of t.given) W (omega arith, c.requires.pace.workers) t.history c.requires.driving.driven c.requires.running c.requires.driving.free none)

pub returns-in-Some : goal.returns-in-Some
returns-in-Some g c =
    let t = c.args.state.now in
    from_reserved t c.reserve.new.self _ c.in_ok-reserve.ensures.ok c.keep_up.new.state
    (subst (λ u. WentOn c.reserve.new.self u) (sym c.keep_up.ensures)
    (went_on_upkeep c.reserve.new.self c.in-Some.due (driving_reserved t c.reserve.new.self _ c.in_ok-reserve.ensures.ok c.requires.driving) (running_reserved t c.reserve.new.self _ c.in_ok-reserve.ensures.ok c.requires.running) c.in-Some.ensures.some 1))

pub returns-in-None : goal.returns-in-None
returns-in-None g c =
    let t = c.args.state.now in
    let same = c.in_ok-reserve.ensures.ok in
    let worker = subst (λ u. IsWorker (plan_of u.given) 1) (sym same) (omega arith, c.requires.pace.workers) in
    went_on_ok c.work.result (Worked c.reserve.new.self c.work.new.state) (WentOn t c.work.new.state)
    (λ w. from_reserved t c.reserve.new.self _ same c.work.new.state
    (went_on_work c.reserve.new.self c.work.new.state (driving_reserved t c.reserve.new.self _ same c.requires.driving) worker (running_reserved t c.reserve.new.self _ same c.requires.running) c.in-None.ensures.none w))
    c.work.ensures
