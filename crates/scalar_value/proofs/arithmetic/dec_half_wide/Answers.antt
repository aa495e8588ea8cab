use Rattle.std.proofs.Common.{to_z-of_z, ap, ◌∙◌}
use Rattle.scalar_value.specs.Numbers.{as_dec}
use Rattle.scalar_value.proofs.Division.{half_by_size}
use Rattle.scalar_value.proofs.arithmetic.dec_half_wide.Goals as goal

pub returns : goal.returns
returns c =
    let f = c.ranges.a in
    let g = c.ranges.b in
    let apart = simp to_z-of_z at c.signs_differ_wide.ensures in
    let size = simp to_z-of_z at c.unsigned_abs.ensures.value in
    let divisor = simp to_z-of_z at c.unsigned_abs-2.ensures.value in
    c.dec_of_size.ensures ∙ ap as_dec (half_by_size c.args.a c.args.b _ _ _ _ apart (c.half_size_wide-size.ensures) size divisor)
