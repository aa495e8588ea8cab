use Rattle.std.proofs.Common.{to_z-of_z, ap, ◌∙◌, sym}
use Rattle.std.specs.Int.{w64}
use Rattle.scalar_value.specs.Numbers.{as_int, as_dec}
use Rattle.scalar_value.proofs.Division.{floor_by_size, unless_not_zero, bits_not_zero}
use Rattle.scalar_value.proofs.arithmetic.int_floor.Goals as goal

pub returns : goal.returns
returns c =
    let f = c.ranges.a in
    let g = c.ranges.b in
    let apart = simp to_z-of_z at c.signs_differ-differ.ensures in
    let size = simp to_z-of_z at c.unsigned_abs.ensures.value in
    let divisor = simp to_z-of_z at c.unsigned_abs-2.ensures.value in
    let not_zero = bits_not_zero w64 c.args.b c.if-b-eq0.false in
    c.int_of_size.ensures ∙ ap as_int (floor_by_size c.args.a c.args.b _ _ _ _ apart c.floor_size.ensures size divisor) ∙ sym (unless_not_zero c.args.b _ not_zero)
