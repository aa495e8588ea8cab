use Rattle.std.proofs.Common.{to_z-of_z}
use Rattle.scalar_value.proofs.Ranges.{dec_unfit}
use Rattle.agg_rules.proofs.sums.dec_of_wide.Goals as goal

pub returns-in-Err : goal.returns-in-Err
returns-in-Err c = let f = c.ranges.millionths in let h = simp to_z-of_z at c.in-Err.ensures in dec_unfit c.args.millionths (λ p. h p)
