use Rattle.std.proofs.Common.{inl, ◌∙◌, ap}
use Rattle.script_session.specs.FaultLines.{unread_line}
use Rattle.script_session.proofs.AnswerSteps.{refused_answer, reaches}
use Rattle.script_session.proofs.run.run_single.Goals as goal

pub returns-in-Err-Fault-Refused-clause-answered : goal.returns-in-Err-Fault-Refused-clause-answered
returns-in-Err-Fault-Refused-clause-answered g c = λ held p n w.
    let r = c.in-Err-Fault-Refused in
    let h = rw (r.field-0-is, r.field-0-0-is) at r.ensures.text held p in
    refused_answer _ r.refusal _ _ _ _ _ (rw c.new.ensures h) (rw c.as_str-in-Err-Fault-Refused.ensures.value at c.tell.ensures)

pub returns-in-Ok-unread_line-clause-line : goal.returns-in-Ok-unread_line-clause-line
returns-in-Ok-unread_line-clause-line g c =
    let u = c.in-Err-Fault-Unread in
    let named = rw (u.field-0-is, u.field-0-0-is) at u.ensures.stops in
    let failed = rw (u.field-0-is, u.field-0-0-is) at u.ensures.counts in (
      c.in-Ok-unread_line.line,
      (u.path, named, inl (c.in-Ok-unread_line.ensures ∙ ap unread_line c.as_str-in-Err-Fault-Unread.ensures.value, failed, reaches _ _ u.path (λ held p. rw (u.field-0-is, u.field-0-0-is) at u.ensures.reached held p))),
      rw c.as_str-in-Ok-unread_line.ensures.value at c.tell-in-Ok-unread_line.ensures,
    )
