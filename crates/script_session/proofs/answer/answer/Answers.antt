use Rattle.std.proofs.Common.{sym, ap, ◌∙◌, [], Err}
use Rattle.script_session.proofs.AnswerSteps.{answer_comes, runs_come, refused_words, refused_plans}
use Rattle.script_session.proofs.answer.answer.Goals as goal

pub returns-in-Ok-clause-text : goal.returns-in-Ok-clause-text
returns-in-Ok-clause-text g c = λ held p. answer_comes _ c.in-Ok.named held c.answer_of.result c.in-Ok.ensures.gives (c.answer_of.ensures.known held p)

pub returns-in-Ok-clause-runs : goal.returns-in-Ok-clause-runs
returns-in-Ok-clause-runs g c = λ held p. runs_come _ c.in-Ok.named held c.answer_of.result c.in-Ok.ensures.gives (c.answer_of.ensures.known held p)

pub returns-in-Ok-clause-reached : goal.returns-in-Ok-clause-reached
returns-in-Ok-clause-reached g c = λ held p. rw c.in-Ok.ensures.gives (c.answer_of.ensures.reached held p)

pub returns-in_ok-bad_words-in-Err-Fault-clause-text : goal.returns-in_ok-bad_words-in-Err-Fault-clause-text
returns-in_ok-bad_words-in-Err-Fault-clause-text g c = λ held p.
    refused_words _ held [] (rw c.in-Err-Fault.field-0-is at c.in-Err-Fault.ensures.gives) ∙ ap (λ r. Err r) (sym c.in_ok-bad_words-in-Err-Fault.ensures)

pub returns-in_ok-bad_words-in-Err-Fault-clause-runs : goal.returns-in_ok-bad_words-in-Err-Fault-clause-runs
returns-in_ok-bad_words-in-Err-Fault-clause-runs g c = λ held p. refused_plans _ held (rw c.in-Err-Fault.field-0-is at c.in-Err-Fault.ensures.gives)
