use Rattle.std.proofs.Common.{◌≡◌, None, take, fold}
use Rattle.na_expr.specs.Types.{joining}
use Rattle.na_expr.proofs.calls.common_type.Given as goal

abbrev pub invariant-loop-kind : goal.invariant-loop-kind
invariant-loop-kind l = l.so_far ≡ fold joining None (take l.kind-index l.kinds)
