use Rattle.std.proofs.Common.{Bool, true, false, if◌then◌else◌, sym, ap, ◌∙◌}
use Rattle.scalar_value.specs.declared.value.Value.TheVariants.{Lgl}
use Rattle.agg_rules.specs.Lists.{unless_missing}
use Rattle.agg_rules.specs.Aggregates.{all_value, looked_at}
use Rattle.agg_rules.proofs.MissingSteps.{false_seen}
use Rattle.agg_rules.proofs.value.all.Goals as goal

pub returns-then-has_false : goal.returns-then-has_false
unfolding all_value
returns-then-has_false c =
    let seen = looked_at c.args.na_rm c.args.values.now in
    sym (ap (λ (b : Bool). if b then Lgl false else unless_missing seen (Lgl true)) (false_seen c.args.na_rm c.args.values.now ∙ sym c.has_false.ensures ∙ c.if-has_false.true))

pub returns-else-has_false : goal.returns-else-has_false
unfolding all_value
returns-else-has_false c =
    let seen = looked_at c.args.na_rm c.args.values.now in
    c.truth.ensures ∙ sym (ap (λ (b : Bool). if b then Lgl false else unless_missing seen (Lgl true)) (false_seen c.args.na_rm c.args.values.now ∙ sym c.has_false.ensures ∙ c.if-has_false.false))
