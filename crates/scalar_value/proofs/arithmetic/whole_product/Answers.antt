use Rattle.std.proofs.Common.{to_z-of_z, ◌*ℤ◌}
use Rattle.scalar_value.proofs.Ranges.{dec_unfit}
use Rattle.scalar_value.proofs.arithmetic.whole_product.Goals as goal

pub returns-in-None : goal.returns-in-None
returns-in-None c =
    let f = c.ranges.x in
    let g = c.ranges.y in
    let h = simp to_z-of_z at c.in-None.ensures in dec_unfit (c.args.x *ℤ c.args.y) (λ p. h p)
