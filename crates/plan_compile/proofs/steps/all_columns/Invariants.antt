use Rattle.std.proofs.Common.{◌≡◌, map}
use Rattle.std.specs.List.{range_with_len}
use Rattle.na_expr.specs.declared.expr.Expr.TheVariants.{Col}
use Rattle.plan_compile.proofs.steps.all_columns.Given as goal

abbrev pub invariant-loop-at : goal.invariant-loop-at
invariant-loop-at l = l.columns ≡ map (λ at. Col at) (range_with_len 0 l.at)
