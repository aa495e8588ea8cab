use Rattle.std.proofs.Common.{◌≡◌, ◌*◌, true, None, drop}
use Rattle.na_expr.specs.Types.{case_seen}
use Rattle.na_expr.proofs.calls.case_kinds.Given as goal

abbrev pub invariant-loop-at : goal.invariant-loop-at
invariant-loop-at l = case_seen true None l.kinds ≡ case_seen l.truths l.values (drop (2 * l.at) l.kinds)
