use Rattle.std.proofs.Common.{to_z-of_z, ap, ◌∙◌, sym, ◌+ℤ◌, ◌-ℤ◌, ◌*ℤ◌}
use Rattle.scalar_value.specs.declared.arithmetic.NumOp.{NumOp}
use Rattle.scalar_value.specs.Numbers.{on_ints}
use Rattle.scalar_value.proofs.Ranges.{int_given}
use Rattle.scalar_value.proofs.arithmetic.int_num.Goals as goal

pub returns-in-Add : goal.returns-in-Add
returns-in-Add c =
    let f = c.ranges.x in
    let g = c.ranges.y in
    let h = simp to_z-of_z at c.checked_add.ensures in
    c.int_or_missing.ensures ∙ int_given c.checked_add.result (c.args.x +ℤ c.args.y) h ∙ ap (λ (o : NumOp). on_ints o c.args.x c.args.y) (sym c.in-Add.is)

pub returns-in-Sub : goal.returns-in-Sub
returns-in-Sub c =
    let f = c.ranges.x in
    let g = c.ranges.y in
    let h = simp to_z-of_z at c.checked_sub.ensures in
    c.int_or_missing-in-Sub.ensures ∙ int_given c.checked_sub.result (c.args.x -ℤ c.args.y) h ∙ ap (λ (o : NumOp). on_ints o c.args.x c.args.y) (sym c.in-Sub.is)

pub returns-in-Mul : goal.returns-in-Mul
returns-in-Mul c =
    let f = c.ranges.x in
    let g = c.ranges.y in
    let h = simp to_z-of_z at c.checked_mul.ensures in
    c.int_or_missing-in-Mul.ensures ∙ int_given c.checked_mul.result (c.args.x *ℤ c.args.y) h ∙ ap (λ (o : NumOp). on_ints o c.args.x c.args.y) (sym c.in-Mul.is)
