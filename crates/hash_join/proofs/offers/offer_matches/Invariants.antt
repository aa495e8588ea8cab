use Rattle.std.proofs.Common.{◌≡◌, ◌++◌, map, take}
use Rattle.std.specs.List.{filter, list_any}
use Rattle.row_table.specs.Keys.{rows_match}
use Rattle.plan_nodes.specs.Kinds.{matching}
use Rattle.hash_join.specs.Windows.{offers}
use Rattle.hash_join.proofs.offers.offer_matches.Given as goal

abbrev pub invariant-loop-y : goal.invariant-loop-y
invariant-loop-y l =
    (l.any ≡ list_any (rows_match (matching l.spec) l.x) (take l.y-index l.built))
    × (l.window ≡ offers l.initial.window (map (λ y. l.x ++ y) (filter (rows_match (matching l.spec) l.x) (take l.y-index l.built))))
