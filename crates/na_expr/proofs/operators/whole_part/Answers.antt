use Rattle.std.proofs.Common.{ℤ, ap, ◌∙◌, sym, pos, to_z-of_z, FitsSigned, int_div, rules}
use Rattle.std.specs.Int.{w64}
use Rattle.std.proofs.lemmas.Int.{quot_fits}
use Rattle.scalar_value.specs.Decimals.{million}
use Rattle.scalar_value.specs.Numbers.{as_int}
use Rattle.scalar_value.proofs.Ranges.{as_int-fits}
use Rattle.na_expr.proofs.operators.whole_part.Goals as goal

pub returns : goal.returns
returns c =
    let whole : FitsSigned w64 c.millionths.result = search rules in
    let fits : FitsSigned w64 (int_div c.millionths.result (pos 1000000)) = quot_fits w64 c.millionths.result (pos 1000000) whole (search rules) in
    simp to_z-of_z (sym (as_int-fits (int_div c.millionths.result (pos 1000000)) fits) ∙ ap (λ (z : ℤ). as_int (int_div z million)) c.millionths.ensures.value)
