use Rattle.std.proofs.Common.{◌≡◌, take}
use Rattle.group_rules.specs.Groups.{each_once}
use Rattle.group_rules.proofs.groups.once.Given as goal

abbrev pub invariant-loop-name : goal.invariant-loop-name
invariant-loop-name l = l.made ≡ each_once (take l.name-index l.name-items)
