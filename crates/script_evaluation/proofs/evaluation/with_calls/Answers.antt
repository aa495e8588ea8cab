use Rattle.std.proofs.Common.{drop}
use Rattle.std.proofs.Math.ListN.{drop_of_length-le}
use Rattle.std.proofs.lemmas.Result.{err_from_is_err_and}
use Rattle.script_evaluation.proofs.Staged.{calls_refused, calls_go_on, calls_end}
use Rattle.script_evaluation.proofs.evaluation.with_calls.Goals as goal

pub returns-in_err-stage : goal.returns-in_err-stage
returns-in_err-stage c tables e is =
    let p = err_from_is_err_and c.from_residual.result c.from_residual.ensures.1 in
    rw (p.1, p.2)
    (calls_refused tables e c.args.calls.now c.loop-call.call-index c.call-item.result c.loop-call.stage c.in_err-stage.field-0.0 c.loop-call-test.true c.call-item.is (c.loop-call.invariant tables e is) (c.in_err-stage.ensures tables))

pub loop-call-preserved : goal.loop-call-preserved
loop-call-preserved c tables e is =
    calls_go_on tables e c.args.calls.now c.loop-call.call-index c.call-item.result c.loop-call.stage c.in_ok-stage.stage c.loop-call-test.true c.call-item.is (c.loop-call.invariant tables e is) (c.in_ok-stage.ensures tables)

pub returns : goal.returns
returns c tables e is =
    calls_end tables e c.args.calls.now (drop c.loop-call.call-index c.args.calls.now) c.loop-call.stage (drop_of_length-le c.args.calls.now c.loop-call-test.false) (c.loop-call.invariant tables e is)
