use Rattle.std.proofs.Common.{◌≡◌, ◌<◌, [], ℕ, length, slice_index_or}
use Rattle.plan_nodes.specs.Kinds.{kind_meaning}
use Rattle.plan_nodes.specs.declared.node.Node.{Node}
use Rattle.fetch_counts.specs.declared.front.Front.{Front}
use Rattle.fetch_counts.specs.Counts.{IsFresh}
use Rattle.fetch_counts.proofs.fronts.fronts_of.Given as goal

abbrev pub invariant-loop-node : goal.invariant-loop-node
invariant-loop-node l =
    (length l.made.items ≡ l.node-index)
    × ((k : ℕ) (v : Node) (d : Front) → k < l.node-index → IsFresh (kind_meaning (slice_index_or l.nodes k v).kind [] 1).wanted (slice_index_or l.made.items k d))
