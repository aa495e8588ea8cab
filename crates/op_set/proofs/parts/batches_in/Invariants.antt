use Rattle.std.proofs.Common.{◌≡◌, map}
use Rattle.op_set.specs.Meanings.{batches_of}
use Rattle.op_set.proofs.parts.batches_in.Given as goal

abbrev pub invariant-loop-local : goal.invariant-loop-local
invariant-loop-local l = l.parts ≡ map batches_of l.yielded
