use Rattle.std.proofs.Common.{◌≡◌, Some, List, ap, subst, ◌∙◌}
use Rattle.syntax_tree.specs.declared.tree.Call.{Call}
use Rattle.syntax_tree.specs.declared.tree.Pipe.{out-Pipe}
use Rattle.script_evaluation.specs.Evaluation.{with_calls}
use Rattle.script_evaluation.specs.EvaluationLaws.{GivesStage}
use Rattle.script_evaluation.specs.Working.{found_stage}
use Rattle.script_evaluation.proofs.Staged.{pipe_given, pipe_unknown}
use Rattle.script_evaluation.proofs.evaluation.piped.Goals as goal

pub returns-in_ok-copy-in-Some : goal.returns-in_ok-copy-in-Some
returns-in_ok-copy-in-Some c tables names scope =
    let is : Some c.in_ok-copy-in-Some.field-0 ≡ found_stage (out-Pipe c.args.pipe.now).table c.args.scope.now = ap (λ s. Some s) c.in_ok-copy-in-Some.ensures ∙ c.in-Some.ensures in
    pipe_given tables names c.args.scope.now c.args.pipe.now c.in_ok-copy-in-Some.field-0 c.with_calls.result is
    (λ e stands. subst (λ (calls : List Call). GivesStage tables c.with_calls.result (with_calls e calls)) c.as_slice.ensures (c.with_calls.ensures tables e stands)) scope

pub returns-in-None : goal.returns-in-None
returns-in-None c tables names scope = rw c.fault_at.ensures (pipe_unknown tables names c.args.scope.now c.args.pipe.now c.in-None.ensures scope)
