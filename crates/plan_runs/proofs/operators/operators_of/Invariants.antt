use Rattle.op_set.specs.Meanings.{meaning_of}
use Rattle.plan_runs.specs.SoFar.{AreFirst}
use Rattle.plan_runs.proofs.operators.operators_of.Given as goal

abbrev pub invariant-loop-place : goal.invariant-loop-place
invariant-loop-place l = AreFirst meaning_of l.nodes l.batch l.place l.ops
