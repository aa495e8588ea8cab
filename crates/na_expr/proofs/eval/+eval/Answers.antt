use Rattle.std.proofs.Common.{◌-◌, ◌≡◌, ◌∙◌, sym, ap, ◌*◌, ◌+◌, ℕ, arith, length, map, drop}
use Rattle.na_expr.specs.Evaluation.{val}
use Rattle.na_expr.specs.Operators.{first_case, carried}
use Rattle.na_expr.proofs.ListSteps.{too_many, case_step, last_case}
use Rattle.na_expr.proofs.eval.+eval.Goals as goal

pub eval_call-returns-in-len4-up : goal.eval_call-returns-in-len4-up
eval_call-returns-in-len4-up t c = too_many c.args.function (val c.args.row.now) c.args.args.now c.requires c.in-len4-up.len_at_least

pub eval_cases-loop-at-preserved : goal.eval_cases-loop-at-preserved
eval_cases-loop-at-preserved t c =
    let next : 2 * c.loop-at.at + 2 ≡ 2 * (c.loop-at.at + 1) = omega arith in
    c.loop-at.invariant
    ∙ case_step (val c.args.row.now) c.args.kind c.args.args.now (2 * c.loop-at.at) c.index-args-at.result (omega arith) c.index-args-at.is (sym c.in_ok-holds.ensures ∙ c.if-branch.false)
    ∙ ap (λ (k : ℕ). first_case c.args.kind (map (val c.args.row.now) (drop k c.args.args.now))) next

pub eval_cases-returns : goal.eval_cases-returns
eval_cases-returns t c =
    let place : length c.args.args.now - 1 ≡ 2 * c.loop-at.at = omega arith in
    c.carried-2.ensures ∙ ap (carried c.args.kind) c.in_ok-eval-2.ensures
    ∙ sym (c.loop-at.invariant ∙ last_case (val c.args.row.now) c.args.kind c.args.args.now (2 * c.loop-at.at) c.index-args-args.result (omega arith) (rw place at c.index-args-args.is))
