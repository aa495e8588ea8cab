use Rattle.std.proofs.Common.{sym, ◌∙◌}
use Rattle.csv_source.proofs.Digits.{with_minus, without_minus}
use Rattle.csv_source.proofs.value.int_of.Goals as goal

pub returns-then-starts_with : goal.returns-then-starts_with
returns-then-starts_with c =
    let e = with_minus c.args.text.now (sym c.starts_with.ensures.value ∙ c.if-starts_with.true) in c.negative_of.ensures ∙ e

pub returns-else-starts_with : goal.returns-else-starts_with
returns-else-starts_with c = c.positive_of.ensures ∙ without_minus c.args.text.now (sym c.starts_with.ensures.value ∙ c.if-starts_with.false)
