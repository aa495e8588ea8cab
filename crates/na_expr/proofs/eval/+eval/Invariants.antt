use Rattle.std.proofs.Common.{◌≡◌, ◌*◌, map, drop, take}
use Rattle.std.specs.List.{list_any, flat_map}
use Rattle.na_expr.specs.Evaluation.{val}
use Rattle.na_expr.specs.Operators.{is_same, first_case, first_there, in_calendar}
use Rattle.scalar_fns.specs.Written.{written}
use Rattle.scalar_value.specs.declared.value.Value.{Value}
use Rattle.na_expr.proofs.eval.+eval.Given as goal

abbrev pub invariant-has_same-loop-at : goal.invariant-has_same-loop-at
invariant-has_same-loop-at l =
    list_any (is_same l.x) (map (val l.row) (drop 1 l.args)) ≡ list_any (is_same l.x) (map (val l.row) (drop l.at l.args))

abbrev pub invariant-eval_cases-loop-at : goal.invariant-eval_cases-loop-at
invariant-eval_cases-loop-at l =
    first_case l.kind (map (val l.row) l.args) ≡ first_case l.kind (map (val l.row) (drop (2 * l.at) l.args))

abbrev pub invariant-eval_coalesce-loop-arg : goal.invariant-eval_coalesce-loop-arg
invariant-eval_coalesce-loop-arg l =
    first_there (map (val l.row) l.args) ≡ first_there (map (val l.row) (drop l.arg-index l.args))

abbrev pub invariant-eval_paste-loop-arg : goal.invariant-eval_paste-loop-arg
invariant-eval_paste-loop-arg l =
    l.text ≡ flat_map (λ (v : Value). written (in_calendar v)) (map (val l.row) (take l.arg-index l.args))
