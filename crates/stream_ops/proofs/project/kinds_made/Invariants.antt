use Rattle.std.proofs.Common.{◌≡◌, map, take}
use Rattle.na_expr.specs.Types.{typed}
use Rattle.plan_nodes.specs.Kinds.{ok_or_lgl}
use Rattle.stream_ops.proofs.project.kinds_made.Given as goal

abbrev pub invariant-loop-e : goal.invariant-loop-e
invariant-loop-e l = l.kinds ≡ map (λ e. ok_or_lgl (typed l.schema e)) (take l.e-index l.list)
