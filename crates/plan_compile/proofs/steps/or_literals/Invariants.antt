use Rattle.std.proofs.Common.{◌≡◌, ◌∷◌, take}
use Rattle.na_expr.specs.declared.expr.Expr.TheVariants.{Col}
use Rattle.plan_compile.specs.Steps.{literals_for}
use Rattle.plan_compile.proofs.steps.or_literals.Given as goal

abbrev pub invariant-loop-cell : goal.invariant-loop-cell
invariant-loop-cell l = l.args ≡ Col l.at ∷ literals_for l.schema (take l.cell-index l.cells) l.at
