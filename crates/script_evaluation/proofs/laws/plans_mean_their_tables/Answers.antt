use Rattle.script_evaluation.proofs.Kept.{plans_mean_their_tables}
use Rattle.script_evaluation.proofs.laws.plans_mean_their_tables.Goals as goal

pub returns : goal.returns
returns c = plans_mean_their_tables c.checked_verbs_suit.ensures c.verbs_keep_sameness.ensures.table c.trees_mean.ensures
