use Rattle.std.proofs.Common.{rules}
use Rattle.scalar_value.proofs.Digits.{unread}
use Rattle.scalar_value.proofs.dec_text.value_below.Goals as goal

pub returns-in_default-2 : goal.returns-in_default-2
returns-in_default-2 c = unread c.args.digits.now c.args.limit c.in_default.field-0 (search rules) c.requires (c.in_default.ensures.value).0
