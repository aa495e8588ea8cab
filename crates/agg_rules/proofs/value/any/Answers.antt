use Rattle.std.proofs.Common.{Bool, true, false, if◌then◌else◌, sym, ap, ◌∙◌}
use Rattle.scalar_value.specs.declared.value.Value.TheVariants.{Lgl}
use Rattle.agg_rules.specs.Lists.{unless_missing}
use Rattle.agg_rules.specs.Aggregates.{any_value, looked_at}
use Rattle.agg_rules.proofs.MissingSteps.{true_seen}
use Rattle.agg_rules.proofs.value.any.Goals as goal

pub returns-then-has_true : goal.returns-then-has_true
unfolding any_value
returns-then-has_true c =
    let seen = looked_at c.args.na_rm c.args.values.now in
    sym (ap (λ (b : Bool). if b then Lgl true else unless_missing seen (Lgl false)) (true_seen c.args.na_rm c.args.values.now ∙ sym c.has_true.ensures ∙ c.if-has_true.true))

pub returns-else-has_true : goal.returns-else-has_true
unfolding any_value
returns-else-has_true c =
    let seen = looked_at c.args.na_rm c.args.values.now in
    c.truth.ensures ∙ sym (ap (λ (b : Bool). if b then Lgl true else unless_missing seen (Lgl false)) (true_seen c.args.na_rm c.args.values.now ∙ sym c.has_true.ensures ∙ c.if-has_true.false))
