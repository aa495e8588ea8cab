use Rattle.std.proofs.Common.{ℕ, ◌*◌, FitsSigned, rules, to_z-of_z, ap, ap₂, sym, ◌∙◌}
use Rattle.scalar_value.specs.Numbers.{as_dec, with_sign, half_size}
use Rattle.std.specs.Int.{w128}
use Rattle.scalar_value.proofs.Division.{is_below}
use Rattle.agg_rules.proofs.MeanSteps.{half_scaled}
use Rattle.agg_rules.proofs.sums.mean_of.Goals as goal

pub returns : goal.returns
returns c =
    let f = c.ranges.sum in
    let size = simp to_z-of_z at c.unsigned_abs.ensures.value in
    let fits : FitsSigned w128 c.signed.result = search rules in
    let given = simp to_z-of_z at c.dec_of_wide.ensures in
    let sized = simp to_z-of_z at c.signed.ensures in
    given ∙ ap as_dec (sized ∙ ap₂ with_sign (is_below c.args.sum) (c.mean_size-size.ensures.size ∙ ap₂ half_size (ap₂ (λ (x y : ℕ). x * y) size c.from.ensures) c.from-2.ensures) ∙ sym (half_scaled c.args.sum c.args.scale c.args.count c.requires.above))
