use Rattle.std.proofs.Common.{◌≡◌, ◌+◌, drop}
use Rattle.plan_nodes.specs.Plans.{user_of as user, user_from}
use Rattle.plan_store.proofs.infos.user_of.Given as goal

abbrev pub invariant-loop-node : goal.invariant-loop-node
invariant-loop-node l = (l.number ≡ l.node-index + 1) × (user l.nodes l.edge ≡ user_from l.number (drop l.node-index l.nodes) l.edge)
