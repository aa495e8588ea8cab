use Rattle.std.proofs.Common.{◌∙◌, sym, ap, Err}
use Rattle.script_session.proofs.ReadScripts.{text_read, no_text_read}
use Rattle.script_session.proofs.reading.read_script.Goals as goal

pub returns-in-Ok : goal.returns-in-Ok
returns-in-Ok c =
    let cases = c.in-Ok.ensures.cases in
    rw (text_read c.args.bytes.now cases.1) (rw cases.0 at c.read_text.ensures)

pub returns-in-Err : goal.returns-in-Err
returns-in-Err c = no_text_read c.args.bytes.now c.in-Err.ensures.cases.0 ∙ ap (λ f. Err f) (sym c.not_text.ensures)
