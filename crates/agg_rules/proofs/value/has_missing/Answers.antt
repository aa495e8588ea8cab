use Rattle.std.proofs.Common.{Bool, not, ◌∙◌, ap, sym}
use Rattle.std.specs.List.{list_any}
use Rattle.scalar_value.specs.Truths.{is_missing}
use Rattle.agg_rules.specs.Aggregates.{looked_at}
use Rattle.agg_rules.proofs.MissingSteps.{none_missing}
use Rattle.agg_rules.proofs.value.has_missing.Goals as goal

pub returns-else-not-na_rm : goal.returns-else-not-na_rm
returns-else-not-na_rm c =
    ap not c.if-not-na_rm.false ∙ sym (ap (λ (b : Bool). list_any is_missing (looked_at b c.args.values.now)) c.if-not-na_rm.false ∙ none_missing c.args.values.now)
