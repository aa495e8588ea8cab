use Rattle.std.proofs.Common.{◌≡◌, ◌<◌, ◌≤◌, ℕ, length, drop, slice_index_or, []}
use Rattle.plan_machine.specs.Lists.{at_or}
use Rattle.plan_nodes.specs.declared.node.Node.{Node}
use Rattle.plan_nodes.specs.Plans.{tables_of}
use Rattle.plan_store.specs.declared.stage.Stage.{Stage}
use Rattle.plan_store.specs.Told.{rows_of_tables}
use Rattle.plan_store.specs.Openings.{stage_of as stage}
use Rattle.plan_store.proofs.stages.stages_of.Given as goal

abbrev pub invariant-loop-node : goal.invariant-loop-node
invariant-loop-node l =
    (length l.made.items ≡ l.node-index) × (l.taken ≤ l.node-index)
    × ((k : ℕ) (d : Stage) (e : Node) → k < l.node-index → slice_index_or l.made.items k d ≡ stage (slice_index_or l.nodes k e) l.batch (at_or [] k (tables_of l.nodes (rows_of_tables l.sources))))
    × (drop l.node-index (tables_of l.nodes (rows_of_tables l.sources)) ≡ tables_of (drop l.node-index l.nodes) (drop l.taken (rows_of_tables l.sources)))
