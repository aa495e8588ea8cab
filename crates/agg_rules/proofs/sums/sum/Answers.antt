use Rattle.std.proofs.Common.{sym, ◌∙◌, to_z-of_z}
use Rattle.agg_rules.proofs.SumSteps.{sum_spoilt, sum_is, total_fits}
use Rattle.agg_rules.proofs.sums.sum.Goals as goal

pub returns-then-has_missing : goal.returns-then-has_missing
returns-then-has_missing c = sum_spoilt c.args.kind _ (sym c.has_missing.ensures ∙ c.if-has_missing.true)

pub returns : goal.returns
returns c =
    let all = c.added_up-all.ensures in
    let fits = total_fits c.added_up-all.result.sum c.added_up-all.result.count all.small all.few in
    let given = simp to_z-of_z at c.sum_of_type.ensures in
    given ∙ sum_is c.args.kind c.args.na_rm c.args.values.now c.added_up-all.result.sum c.added_up-all.result.count (sym c.has_missing.ensures ∙ c.if-has_missing.false) all.sum all.count all.few
