use Rattle.std.proofs.Common.{List, ℕ, ◌∙◌}
use Rattle.std.proofs.lemmas.Result.{err_from_is_err_and}
use Rattle.script_evaluation.specs.Evaluation.{Named}
use Rattle.script_session.specs.declared.status.Answered.{Answered}
use Rattle.script_session.proofs.AnswerSteps.{tables_stop, tables_reach}
use Rattle.script_session.proofs.answer.answer_of.Goals as goal

pub returns-in_err-tables-clause-stops : goal.returns-in_err-tables-clause-stops
returns-in_err-tables-clause-stops g c =
    let e = err_from_is_err_and c.from_residual-in_err-tables.result c.from_residual-in_err-tables.ensures.1 in
    rw (e.1, e.2) (tables_stop (List Named) Answered c.args.words.now c.in_err-tables.field-0.0 (rw c.as_slice.ensures at c.in_err-tables.ensures.stops))

pub returns-in_err-tables-clause-reached : goal.returns-in_err-tables-clause-reached
returns-in_err-tables-clause-reached g c = λ held p.
    let e = err_from_is_err_and c.from_residual-in_err-tables.result c.from_residual-in_err-tables.ensures.1 in
    rw (e.1, e.2)
    (tables_reach (List Named) Answered c.args.words.now held c.in_ok-script.script c.in_err-tables.field-0.0 (c.in_ok-script.ensures.known held p)
    (rw c.as_slice.ensures at c.in_err-tables.ensures.reached held (c.in_ok-script.ensures.held ∙ p)))
