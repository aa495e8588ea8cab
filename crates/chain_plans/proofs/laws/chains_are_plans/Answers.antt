use Rattle.chain_plans.proofs.Chains.{chains_are_plans}
use Rattle.chain_plans.proofs.laws.chains_are_plans.Goals as goal

pub returns : goal.returns
returns c = chains_are_plans
