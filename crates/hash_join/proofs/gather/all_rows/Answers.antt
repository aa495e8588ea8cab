use Rattle.std.proofs.Common.{arith}
use Rattle.std.proofs.lemmas.Grind.{common_steps}
use Rattle.plan_nodes.proofs.Gathered.{rows_of-push}
use Rattle.hash_join.proofs.gather.all_rows.Goals as goal

pub loop-batch-preserved : goal.loop-batch-preserved
loop-batch-preserved c = grind (arith, common_steps, rows_of-push)
