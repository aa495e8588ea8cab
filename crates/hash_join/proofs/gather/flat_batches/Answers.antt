use Rattle.std.proofs.Common.{arith}
use Rattle.std.proofs.lemmas.Grind.{common_steps}
use Rattle.plan_nodes.proofs.Gathered.{flat-push}
use Rattle.hash_join.proofs.gather.flat_batches.Goals as goal

pub loop-part-preserved : goal.loop-part-preserved
loop-part-preserved c = grind (arith, common_steps, flat-push)
