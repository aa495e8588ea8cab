use Rattle.std.proofs.Common.{ℤ, ap, ◌∙◌, sym, to_z-of_z, FitsSigned}
use Rattle.std.specs.Int.{w64}
use Rattle.scalar_value.specs.declared.value.Value.TheVariants.{Int}
use Rattle.scalar_value.proofs.Ranges.{as_int-fits, as_int-missing}
use Rattle.agg_rules.proofs.sums.int_of_wide.Goals as goal

pub returns-in-Ok : goal.returns-in-Ok
returns-in-Ok c =
    let f = c.ranges.number in
    let given = simp to_z-of_z at c.in-Ok.ensures in
    let fits : FitsSigned w64 c.in-Ok.number = rw given.1 given.0 in
    simp to_z-of_z (ap (λ (z : ℤ). Int z) given.1 ∙ sym (as_int-fits c.args.number given.0))

pub returns-in-Err : goal.returns-in-Err
returns-in-Err c =
    let f = c.ranges.number in
    let given = simp to_z-of_z at c.in-Err.ensures in
    sym (as_int-missing c.args.number (λ p. given p))
