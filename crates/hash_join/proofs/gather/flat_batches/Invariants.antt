use Rattle.std.proofs.Common.{◌≡◌}
use Rattle.plan_nodes.specs.Operators.{flat}
use Rattle.hash_join.proofs.gather.flat_batches.Given as goal

abbrev pub invariant-loop-part : goal.invariant-loop-part
invariant-loop-part l = l.all.items ≡ flat l.yielded
