use Rattle.std.proofs.Common.{◌≡◌, take}
use Rattle.na_expr.proofs.expr.+copy.Given as goal

abbrev pub invariant-copy_all-loop-arg : goal.invariant-copy_all-loop-arg
invariant-copy_all-loop-arg l = l.made ≡ take l.arg-index l.args
