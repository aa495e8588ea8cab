use Rattle.plan_nodes.proofs.JoinParts.{missing-more}
use Rattle.plan_nodes.proofs.tests.join.missing_row.Goals as goal

pub loop-kind-preserved : goal.loop-kind-preserved
loop-kind-preserved c =
    let more = missing-more c.args.kinds.now c.loop-kind.kind-index c.loop-kind-test.true in
    cc (more, c.in_ok-push.ensures.appended, c.missing_of.ensures)
