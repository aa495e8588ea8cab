use Rattle.agg_rules.specs.Aggregates.{count_value}
use Rattle.agg_rules.proofs.value.count.Goals as goal

pub returns : goal.returns
unfolding count_value
returns c = c.int_of_count.ensures
