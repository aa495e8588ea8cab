use Rattle.std.proofs.Common.{◌≡◌, take}
use Rattle.std.specs.List.{filter}
use Rattle.row_table.specs.Keys.{rows_match}
use Rattle.plan_nodes.specs.Kinds.{matching}
use Rattle.plan_nodes.specs.Examples.{by_first}
use Rattle.plan_nodes.proofs.tests.join.matched_rows.Given as goal

abbrev pub invariant-loop-y : goal.invariant-loop-y
invariant-loop-y l = l.rows ≡ filter (rows_match (matching by_first) l.x) (take l.y-index l.built)
