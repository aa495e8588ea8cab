use Rattle.std.proofs.Common.{append_assoc, ◌∙◌}
use Rattle.table_runs.proofs.sizes_text.Goals as goal

pub returns : goal.returns
returns c = c.of_string.ensures ∙ c.in_ok-format.ensures.ok ∙ simp append_assoc
