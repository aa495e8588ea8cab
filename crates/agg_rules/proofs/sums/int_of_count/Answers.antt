use Rattle.std.proofs.Common.{ℤ, ap, ◌∙◌, sym, pos, to_z-of_z, FitsSigned, rules}
use Rattle.std.specs.Int.{w64}
use Rattle.scalar_value.specs.declared.value.Value.TheVariants.{Int}
use Rattle.scalar_value.proofs.Ranges.{as_int-fits, as_int-missing}
use Rattle.agg_rules.proofs.sums.int_of_count.Goals as goal

pub returns-in-Ok : goal.returns-in-Ok
returns-in-Ok c =
    let whole : FitsSigned w64 c.in-Ok.number = search rules in
    let given = c.in-Ok.ensures in
    simp to_z-of_z (ap (λ (z : ℤ). Int z) given.1 ∙ sym (as_int-fits (pos c.args.count) given.0))

pub returns-in-Err : goal.returns-in-Err
returns-in-Err c = sym (as_int-missing (pos c.args.count) (λ p. c.in-Err.ensures p))
