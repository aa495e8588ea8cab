use Rattle.group_rules.proofs.Names.{summarised-distinct}
use Rattle.group_rules.proofs.laws.summarised_groups_differ.Goals as goal

pub returns : goal.returns
returns c = summarised-distinct
