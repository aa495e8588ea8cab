use Rattle.std.proofs.Common.{ℕ, ◌+◌, List, ◌∙◌, sym, ap, Bool, arith}
use Rattle.std.proofs.lemmas.List.Sums.{count_by_more_yes, count_by_more_no}
use Rattle.scalar_value.specs.declared.value.Value.{Value}
use Rattle.scalar_value.specs.Order.{value_same}
use Rattle.na_expr.specs.Evaluation.{val}
use Rattle.expression_runs.proofs.count_rows.Goals as goal
use Rattle.expression_runs.proofs.count_rows.Goals.{then-branch, else-branch}

pub loop-row-preserved : goal.loop-row-preserved
loop-row-preserved c =
    let test : List Value → Bool = λ row. value_same (val row c.args.e.now) c.args.wanted.now in
    let row = c.row-item.result in
    let rows = c.args.rows.now in
    let i = c.loop-row.row-index in
    elim c.if-branch.branch [
      | then-branch w ↦
          let passes = ap test (sym c.row-item.is) ∙ sym c.in_ok-gives.ensures ∙ w.if-branch.true in
          record { count = w.count-is ∙ ap (λ (n : ℕ). n + 1) c.loop-row.invariant.count ∙ sym (count_by_more_yes test rows i row c.loop-row-test.true passes); within = omega arith }
      | else-branch w ↦
          let fails = ap test (sym c.row-item.is) ∙ sym c.in_ok-gives.ensures ∙ w.if-branch.false in
          record { count = w.count-is ∙ c.loop-row.invariant.count ∙ sym (count_by_more_no test rows i row c.loop-row-test.true fails); within = omega arith }
    ]
