use Rattle.chain_plans.proofs.Chains.{chains_mean}
use Rattle.chain_plans.proofs.laws.chains_mean.Goals as goal

pub returns : goal.returns
returns c = chains_mean c.plans_are_well_formed.ensures.well_formed c.meaning_is_whole.ensures
