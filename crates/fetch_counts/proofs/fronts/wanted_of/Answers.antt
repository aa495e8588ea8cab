use Rattle.std.proofs.Common.{◌+◌, [], ap, arith}
use Rattle.plan_nodes.specs.Kinds.{kind_meaning}
use Rattle.plan_nodes.specs.declared.node.NodeKind.{NodeKind}
use Rattle.fetch_counts.proofs.fronts.wanted_of.Goals as goal

pub overflow_add-result : goal.overflow_add-result
overflow_add-result c =
    let less = c.requires (c.in-Fetch.offset + c.in-Fetch.count) (ap (λ (k : NodeKind). (kind_meaning k [] 1).wanted) c.in-Fetch.is) in
    omega arith
