use Rattle.plan_bounds.proofs.NodeByNode.{IsSoFar}
use Rattle.plan_bounds.proofs.computed.most_entries_of.Given as goal

abbrev pub invariant-loop-node : goal.invariant-loop-node
invariant-loop-node l = IsSoFar l.nodes l.tables l.batch l.node-index l.taken l.entries l.bounds.items
