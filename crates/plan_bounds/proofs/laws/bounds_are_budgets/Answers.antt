use Rattle.plan_bounds.proofs.Budgets.{budget}
use Rattle.plan_bounds.proofs.laws.bounds_are_budgets.Goals as goal

pub returns : goal.returns
returns c nodes tables pace is on = budget nodes tables pace is
