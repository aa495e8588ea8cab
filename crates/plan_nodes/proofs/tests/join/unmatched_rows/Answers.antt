use Rattle.std.proofs.Common.{arith}
use Rattle.std.proofs.lemmas.Grind.{common_steps}
use Rattle.plan_nodes.proofs.tests.join.unmatched_rows.Goals as goal
use Rattle.plan_nodes.proofs.tests.join.unmatched_rows.Goals.{then-not-is_matched+in_ok-joined+in_ok-push, else-not-is_matched}

pub loop-y-preserved : goal.loop-y-preserved
loop-y-preserved c =
    elim c.if-not-is_matched.branch [
      | then-not-is_matched+in_ok-joined+in_ok-push w ↦ grind (arith, common_steps)
      | else-not-is_matched w ↦ grind (arith, common_steps)
    ]
