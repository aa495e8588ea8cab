use Rattle.std.proofs.Common.{refl}
use Rattle.plan_bounds.specs.Bounds.{bound_within}
use Rattle.plan_bounds.proofs.laws.worked_bound.Goals as goal

pub returns : goal.returns
unfolding bound_within
returns c join workers pause resume = refl
