use Rattle.std.proofs.Common.{[], ◌∷◌, ◌++◌, sym, ap, ap₂, ◌∙◌}
use Rattle.std.proofs.lemmas.List.{map_more}
use Rattle.na_expr.specs.Evaluation.{val}
use Rattle.col_eval.proofs.eval_batch.Goals as goal

pub loop-row-preserved : goal.loop-row-preserved
loop-row-preserved c =
    let e = c.args.e.now in
    let rows = c.rows-rows.result.now in
    let i = c.loop-row.row-index in
    c.in_ok-push.ensures.items
    ∙ ap₂ (λ xs x. xs ++ x ∷ []) c.loop-row.invariant (c.in_ok-eval_row.ensures ∙ ap (λ row. val row e) c.row-item.is)
    ∙ sym (map_more (λ row. val row e) rows i c.row-item.result c.loop-row-test.true)
