use Rattle.std.proofs.Common.{take}
use Rattle.script_evaluation.specs.Evaluation.{opening}
use Rattle.script_evaluation.specs.Working.{IsScopeOf}
use Rattle.script_evaluation.proofs.evaluation.opening.Given as goal

abbrev pub invariant-loop-source : goal.invariant-loop-source
invariant-loop-source l = IsScopeOf l.tables (opening (take l.source l.tables)) l.scope.items
