use Rattle.std.proofs.Common.{◌∙◌, sym, ap, Err}
use Rattle.script_session.specs.Answer.{too_long}
use Rattle.script_session.proofs.AnswerSteps.{long_file}
use Rattle.script_session.proofs.tables.read_file.Goals as goal

pub returns-in_ok-too_long-in-Err-Fault-TooLong-clause-known : goal.returns-in_ok-too_long-in-Err-Fault-TooLong-clause-known
returns-in_ok-too_long-in-Err-Fault-TooLong-clause-known g c = λ held p.
    let h = rw (c.in-Err-Fault-TooLong.field-0-is, c.in-Err-Fault-TooLong.field-0-0-is, c.as_str.ensures.value) at c.in-Err-Fault-TooLong.ensures.known held p in
    long_file (held c.args.path.now) c.args.path.now c.args.limit h
    ∙ ap (λ r. Err r) (sym (c.in_ok-too_long-in-Err-Fault-TooLong.ensures ∙ ap too_long c.as_str-in-Err-Fault-TooLong.ensures.value))
