use Rattle.std.proofs.Common.{◌≡◌, take}
use Rattle.group_rules.specs.Groups.{selected_groups}
use Rattle.group_rules.proofs.groups.after_select.Given as goal

abbrev pub invariant-loop-group : goal.invariant-loop-group
invariant-loop-group l = l.made ≡ selected_groups l.kept (take l.group-index l.group-items)
