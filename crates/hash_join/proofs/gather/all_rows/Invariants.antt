use Rattle.std.proofs.Common.{◌≡◌}
use Rattle.plan_machine.specs.Batch.{rows_of}
use Rattle.plan_nodes.specs.Examples.{bare}
use Rattle.hash_join.proofs.gather.all_rows.Given as goal

abbrev pub invariant-loop-batch : goal.invariant-loop-batch
invariant-loop-batch l = l.rows.items ≡ rows_of (bare l.yielded)
