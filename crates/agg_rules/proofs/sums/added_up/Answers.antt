use Rattle.std.proofs.Common.{to_z, ℕ, ℤ, ◌+ℤ◌, ◌+◌, ◌<◌, ◌^◌, ◌≡◌, sym, ap, ap₂, ◌∙◌, FitsSigned, to_z-of_z, false, arith, rules}
use Rattle.std.specs.Int.{w64, w128}
use Rattle.scalar_value.specs.Truths.{is_missing}
use Rattle.agg_rules.proofs.SumSteps.{sum_with_one, count_with_one, still_small, still_fits}
use Rattle.agg_rules.proofs.sums.added_up.Goals as goal

pub loop-v-preserved : goal.loop-v-preserved
loop-v-preserved c =
    let v = c.v-item.result in
    let there : is_missing v ≡ false = sym c.is_missing.ensures ∙ c.if-is_missing.false in
    let fits : FitsSigned w64 c.number.result = search rules in
    let given = simp to_z-of_z at c.from-sum.ensures in
    let number = given ∙ c.number.ensures in
    let fits_more : FitsSigned w64 c.from-sum.result = rw given fits in
    let before = c.loop-v.invariant in
    let few : c.loop-v.count + 1 < 2 ^ 64 = omega arith in
    let sum : ℤ = to_z w128 c.loop-v.sum-bits in
    let small = still_small sum c.from-sum.result c.loop-v.count before.small fits_more in
    let whole = still_fits sum c.from-sum.result c.loop-v.count small few in
    let wide : FitsSigned w128 c.from-sum.result = search rules in
    simp to_z-of_z (record {
      sum = ap₂ (λ (y z : ℤ). y +ℤ z) before.sum number ∙ sym (sum_with_one c.args.values.now c.loop-v.v-index v c.loop-v-test.true c.v-item.is there);
      count = ap (λ (n : ℕ). n + 1) before.count ∙ sym (count_with_one c.args.values.now c.loop-v.v-index v c.loop-v-test.true c.v-item.is there);
      small = small;
      within = omega arith;
    })
