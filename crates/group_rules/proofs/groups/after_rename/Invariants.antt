use Rattle.std.proofs.Common.{◌≡◌, take}
use Rattle.group_rules.specs.Groups.{renamed_groups}
use Rattle.group_rules.proofs.groups.after_rename.Given as goal

abbrev pub invariant-loop-group : goal.invariant-loop-group
invariant-loop-group l = l.made ≡ renamed_groups l.from l.to (take l.group-index l.group-items)
