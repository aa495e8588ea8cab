use Rattle.std.proofs.Common.{arith}
use Rattle.std.proofs.lemmas.Grind.{common_steps}
use Rattle.hash_join.proofs.Windowed.{offers-append}
use Rattle.hash_join.proofs.offers.offer_rows.Goals as goal

pub loop-x-preserved : goal.loop-x-preserved
loop-x-preserved c = grind (arith, common_steps, offers-append)
