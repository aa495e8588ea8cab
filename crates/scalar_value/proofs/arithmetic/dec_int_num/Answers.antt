use Rattle.std.proofs.Common.{rules, ℤ, FitsSigned, to_z-of_z, ap, ◌∙◌, sym, ◌*ℤ◌}
use Rattle.std.specs.Int.{w64}
use Rattle.scalar_value.specs.declared.arithmetic.NumOp.{NumOp}
use Rattle.scalar_value.specs.Decimals.{million}
use Rattle.scalar_value.specs.Numbers.{on_decs, as_dec}
use Rattle.scalar_value.proofs.Division.{half_right}
use Rattle.scalar_value.proofs.arithmetic.dec_int_num.Goals as goal

pub returns-in-Mul : goal.returns-in-Mul
returns-in-Mul c =
    let f = c.ranges.y in
    let g : FitsSigned w64 c.millionths.result = search rules in
    let made = simp to_z-of_z at c.whole_product.ensures in
    made ∙ ap (λ (z : ℤ). as_dec (z *ℤ c.args.y)) c.millionths.ensures.value ∙ ap as_dec (sym (half_right c.args.x c.args.y)) ∙ ap (λ (o : NumOp). on_decs o c.args.x (c.args.y *ℤ million)) (sym c.in-Mul.is)
