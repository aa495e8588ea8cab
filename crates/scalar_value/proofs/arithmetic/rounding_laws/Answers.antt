use Rattle.scalar_value.proofs.Rounding.{half_nearest, floor_down}
use Rattle.scalar_value.proofs.arithmetic.rounding_laws.Goals as goal

pub returns-clause-nearest : goal.returns-clause-nearest
returns-clause-nearest c = half_nearest

pub returns-clause-down : goal.returns-clause-down
returns-clause-down c = floor_down
