use Rattle.std.proofs.Common.{refl}
use Rattle.syntax_check.proofs.parsed.Goals as goal

pub returns-in-Ok : goal.returns-in-Ok
returns-in-Ok c = (c.args.tokens.now, record { are = c.requires.tokens; count_is = refl }, (c.in-Ok.field-0, c.in-Ok.ensures.parsed))
