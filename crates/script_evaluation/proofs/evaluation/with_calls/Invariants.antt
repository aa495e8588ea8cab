use Rattle.std.proofs.Common.{List, drop}
use Rattle.script_evaluation.specs.Evaluation.{Named, Evaluated}
use Rattle.script_evaluation.specs.EvaluationLaws.{IsStageOf}
use Rattle.script_evaluation.proofs.Staged.{GoesOn}
use Rattle.script_evaluation.proofs.evaluation.with_calls.Given as goal

abbrev pub invariant-loop-call : goal.invariant-loop-call
invariant-loop-call l = (tables : List Named) (e : Evaluated) → IsStageOf tables e l.fn.stage → GoesOn tables e l.calls (drop l.call-index l.calls) l.stage
