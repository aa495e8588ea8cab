use Rattle.std.proofs.Common.{[], ◌∷◌, ◌++◌, sym, ◌∙◌, ap, arith}
use Rattle.std.proofs.lemmas.List.FromFn.{map-range_with_len_more}
use Rattle.na_expr.specs.declared.expr.Expr.TheVariants.{Col}
use Rattle.plan_compile.proofs.steps.all_columns.Goals as goal

pub loop-at-preserved : goal.loop-at-preserved
loop-at-preserved c =
    c.in_ok-push.ensures.appended ∙ ap (λ es. es ++ Col c.loop-at.at ∷ []) c.loop-at.invariant ∙ sym (map-range_with_len_more (λ at. Col at) 0 c.loop-at.at c.loop-at.at (omega arith))
