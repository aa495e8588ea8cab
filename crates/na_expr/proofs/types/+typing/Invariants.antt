use Rattle.std.proofs.Common.{◌≡◌, ◌*◌, true, None, map, drop, fold, List}
use Rattle.scalar_value.specs.declared.value.ColType.{ColType}
use Rattle.na_expr.specs.Types.{typed, all_of, then_all, joining, agreed, case_seen}
use Rattle.na_expr.proofs.types.+typing.Given as goal

abbrev pub invariant-agreement-loop-arg : goal.invariant-agreement-loop-arg
invariant-agreement-loop-arg l =
    then_all agreed (all_of (map (typed l.schema) l.args)) ≡ then_all (λ (ts : List ColType). fold joining l.so_far ts) (all_of (map (typed l.schema) (drop l.arg-index l.args)))

abbrev pub invariant-case_parts-loop-at : goal.invariant-case_parts-loop-at
invariant-case_parts-loop-at l =
    then_all (case_seen true None) (all_of (map (typed l.schema) l.args)) ≡ then_all (case_seen l.truths l.values) (all_of (map (typed l.schema) (drop (2 * l.at) l.args)))
