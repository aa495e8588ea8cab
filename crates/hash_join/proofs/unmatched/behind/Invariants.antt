use Rattle.std.proofs.Common.{◌≡◌, ◌++◌, map, take}
use Rattle.hash_join.proofs.unmatched.behind.Given as goal

abbrev pub invariant-loop-y : goal.invariant-loop-y
invariant-loop-y l = l.made ≡ map (λ y. l.missing ++ y) (take l.y-index l.rows)
