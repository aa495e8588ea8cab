use Rattle.std.proofs.Common.{◌≡◌, drop}
use Rattle.group_rules.specs.Groups.{new_name}
use Rattle.group_rules.proofs.groups.renamed.Given as goal

abbrev pub invariant-loop-pair : goal.invariant-loop-pair
invariant-loop-pair l = new_name l.kept l.name ≡ new_name (drop l.pair-index l.pair-items) l.name
