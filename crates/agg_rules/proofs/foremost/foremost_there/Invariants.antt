use Rattle.std.proofs.Common.{◌≡◌, None, take}
use Rattle.std.specs.List.{fold}
use Rattle.std.specs.Option.{option_copied}
use Rattle.agg_rules.specs.Running.{foremost_after}
use Rattle.agg_rules.proofs.foremost.foremost_there.Given as goal

abbrev pub invariant-loop-v : goal.invariant-loop-v
invariant-loop-v l = option_copied l.first ≡ fold (foremost_after l.descending) None (take l.v-index l.values)
