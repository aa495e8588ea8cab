use Rattle.std.proofs.Common.{◌≡◌, ◌-◌, sym, ap, ◌∙◌, arith}
use Rattle.plan_nodes.specs.declared.node.Node.{Node}
use Rattle.plan_runs.proofs.Numbered.{node_is}
use Rattle.plan_runs.proofs.operators.columns_of.Goals as goal

pub returns : goal.returns
returns c =
    let within = c.requires in
    ap (λ (v : Node). v.schema) (sym c.index-nodes-number.is ∙ sym (node_is c.args.nodes.now c.args.number (c.args.number - 1) c.index-nodes-number.result (omega arith) (omega arith) c.index-nodes-number.is))
