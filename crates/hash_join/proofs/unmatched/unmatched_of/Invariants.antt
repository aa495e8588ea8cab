use Rattle.std.proofs.Common.{◌≡◌, take}
use Rattle.plan_nodes.specs.Kinds.{unmatched}
use Rattle.hash_join.proofs.unmatched.unmatched_of.Given as goal

abbrev pub invariant-loop-y : goal.invariant-loop-y
invariant-loop-y l = l.made ≡ unmatched l.spec (take l.y-index l.built) l.streamed
