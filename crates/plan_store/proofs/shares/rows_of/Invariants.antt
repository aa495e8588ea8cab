use Rattle.std.proofs.Common.{◌≡◌, ◌<◌, ℕ, suc, map, true, false, length, drop, slice_index_or, List, Option}
use Rattle.std.specs.Arc.{arc_value}
use Rattle.task_work.specs.declared.work.Share.{Share}
use Rattle.plan_nodes.specs.Operators.{Each}
use Rattle.plan_nodes.specs.Plans.{IsSourceTable, node_at, meaning_at, tables_of}
use Rattle.plan_store.specs.Told.{rows_of_tables}
use Rattle.plan_store.specs.Beginning.{numbers_of}
use Rattle.plan_store.specs.Shares.{RowOpens}
use Rattle.plan_store.proofs.shares.rows_of.Given as goal

abbrev pub invariant-loop-node : goal.invariant-loop-node
invariant-loop-node g l =
    (length l.made.items ≡ l.node-index)
    × ((k : ℕ) (d : List (Option (Share g.row.O.Denot g.row.O-Shared.Denot g.row.O-Local.Denot))) → k < l.node-index →
    RowOpens g.O.Operator.meaning g.O.Operator.local_is g.O.Operator.shared_is l.nodes (rows_of_tables l.fn.sources) l.setting.batch l.setting.workers (suc k) (slice_index_or (map (λ row. row.items) l.made.items) k d))
    × (drop l.node-index (tables_of l.nodes (rows_of_tables l.fn.sources)) ≡ tables_of (drop l.node-index l.nodes) (rows_of_tables l.sources))
    × Each (λ t n. IsSourceTable (node_at l.nodes n) (arc_value t)) l.sources (numbers_of true (suc l.node-index) (drop l.node-index l.nodes))
    × Each (λ op n. g.O.Operator.meaning (arc_value op) ≡ meaning_at l.nodes l.setting.batch n) l.ops (numbers_of false (suc l.node-index) (drop l.node-index l.nodes))
