use Rattle.std.proofs.Common.{rules}
use Rattle.group_rules.proofs.Names.{once-next}
use Rattle.group_rules.proofs.groups.once.Goals as goal

pub loop-name-preserved : goal.loop-name-preserved
loop-name-preserved c = once-next c.as_slice-name-items.result.now c.loop-name.name-index c.name-item.result c.loop-name.made c.add_once.new.names (search rules) (search rules) c.loop-name.invariant c.in_ok-add_once.ensures
