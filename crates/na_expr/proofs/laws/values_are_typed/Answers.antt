use Rattle.na_expr.proofs.TypedValues.{values_typed}
use Rattle.na_expr.proofs.laws.values_are_typed.Goals as goal

pub returns : goal.returns
returns c = values_typed
