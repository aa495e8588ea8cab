use Rattle.std.proofs.Common.{List, drop}
use Rattle.script_evaluation.specs.Evaluation.{Named, Scope}
use Rattle.script_evaluation.specs.Working.{IsScopeOf}
use Rattle.script_evaluation.proofs.Staged.{NamesGoOn}
use Rattle.script_evaluation.proofs.evaluation.with_assigned.Given as goal

abbrev pub invariant-loop-name : goal.invariant-loop-name
invariant-loop-name l = (tables : List Named) (names : Scope) → IsScopeOf tables names l.initial.scope.items → NamesGoOn tables names l.assigns (drop l.name-index l.assigns) l.scope.items
