use Rattle.std.proofs.Common.{◌≡◌, ◌+◌, ◌<◌, ℕ, suc, length, slice_index_or}
use Rattle.plan_nodes.specs.declared.node.Node.{Node}
use Rattle.plan_store.specs.declared.stage.NodeInfo.{NodeInfo}
use Rattle.plan_store.specs.Openings.{info_of as info}
use Rattle.plan_store.proofs.infos.infos_of.Given as goal

abbrev pub invariant-loop-node : goal.invariant-loop-node
invariant-loop-node l =
    (l.number ≡ l.node-index + 1) × (length l.made.items ≡ l.node-index)
    × ((k : ℕ) (d : NodeInfo) (e : Node) → k < l.node-index → slice_index_or l.made.items k d ≡ info l.nodes (slice_index_or l.nodes k e) (suc k))
