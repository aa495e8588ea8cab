use Rattle.std.proofs.Common.{◌≡◌, ℕ, List, map, take}
use Rattle.na_expr.specs.declared.expr.Expr.TheVariants.{Col}
use Rattle.verb_forms.specs.Columns.{chosen_columns}
use Rattle.plan_compile.proofs.steps.choice_step.Given as goal

abbrev pub invariant-loop-at : goal.invariant-loop-at
invariant-loop-at l = record {
  columns : l.columns ≡ chosen_columns l.schema (take l.at-index l.chosen);
  values : l.values ≡ map (λ (c : ℕ × List ℕ). Col c.0) (take l.at-index l.chosen);
}
