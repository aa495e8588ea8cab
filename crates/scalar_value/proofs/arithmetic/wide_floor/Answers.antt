use Rattle.std.proofs.Common.{ℤ, ◌*ℤ◌, to_z-of_z, ap, ◌∙◌, sym}
use Rattle.std.specs.Int.{w128}
use Rattle.scalar_value.specs.Decimals.{million}
use Rattle.scalar_value.specs.Numbers.{as_int, as_dec}
use Rattle.scalar_value.proofs.Division.{floor_by_size, product_with_sign, unless_not_zero, bits_not_zero}
use Rattle.scalar_value.proofs.arithmetic.wide_floor.Goals as goal

pub returns : goal.returns
returns c =
    let f = c.ranges.a in
    let g = c.ranges.b in
    let apart = simp to_z-of_z at c.signs_differ_wide-differ.ensures in
    let size = simp to_z-of_z at c.unsigned_abs.ensures.value in
    let divisor = simp to_z-of_z at c.unsigned_abs-2.ensures.value in
    let not_zero = bits_not_zero w128 c.args.b c.if-b-eq0.false in
    let made = product_with_sign c.signs_differ_wide-differ.result c.floor_size_wide-size.result ∙ ap (λ (z : ℤ). z *ℤ million) (floor_by_size c.args.a c.args.b _ _ _ _ apart (c.floor_size_wide-size.ensures) size divisor) in
    c.dec_of_size.ensures ∙ ap as_dec made ∙ sym (unless_not_zero c.args.b _ not_zero)
