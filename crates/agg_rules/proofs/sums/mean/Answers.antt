use Rattle.std.proofs.Common.{arith, ◌<◌, sym, ◌∙◌, to_z-of_z}
use Rattle.agg_rules.proofs.SumSteps.{mean_spoilt, total_fits, mean_of_none, mean_is}
use Rattle.agg_rules.proofs.sums.mean.Goals as goal

pub returns-then-has_missing : goal.returns-then-has_missing
returns-then-has_missing c = mean_spoilt c.args.kind _ (sym c.has_missing.ensures ∙ c.if-has_missing.true)

pub returns-then-all-eq0 : goal.returns-then-all-eq0
returns-then-all-eq0 c =
    mean_of_none c.args.kind c.args.na_rm c.args.values.now c.added_up-all.result.count (sym c.has_missing.ensures ∙ c.if-has_missing.false) c.added_up-all.ensures.count c.if-all-eq0.true

pub returns : goal.returns
returns c =
    let all = c.added_up-all.ensures in
    let some : 0 < c.added_up-all.result.count = omega (arith, c.if-all-eq0.false) in
    let fits = total_fits c.added_up-all.result.sum c.added_up-all.result.count all.small all.few in
    let given = simp to_z-of_z at c.mean_of_type.ensures in
    given ∙ mean_is c.args.kind c.args.na_rm c.args.values.now c.added_up-all.result.sum c.added_up-all.result.count (sym c.has_missing.ensures ∙ c.if-has_missing.false) all.sum all.count all.few some
