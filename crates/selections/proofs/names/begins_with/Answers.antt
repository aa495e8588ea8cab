use Rattle.selections.proofs.Lowered.{begins}
use Rattle.selections.proofs.names.begins_with.Goals as goal

pub returns-then-text-name : goal.returns-then-text-name
returns-then-text-name c = begins c.args.name.now c.args.text.now c.eq_ignore_ascii_case.result c.eq_ignore_ascii_case.ensures.test
