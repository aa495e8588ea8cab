use Rattle.std.proofs.Common.{◌≡◌, ◌≤◌, ◌+◌, ◌-◌, ◌^◌, ℕ, suc, map, true, false, refl, sym, ap, subst, ◌∙◌}
use Rattle.std.specs.Arc.{arc_value}
use Rattle.plan_nodes.specs.declared.node.Node.{Node}
use Rattle.plan_nodes.specs.declared.node.NodeKind.TheVariants.{Fetch}
use Rattle.plan_nodes.specs.Kinds.{is_source, is_built, kind_meaning}
use Rattle.plan_nodes.specs.Plans.{input_schemas, node_at}
use Rattle.op_set.specs.Meanings.{meaning_of}
use Rattle.plan_runs.proofs.Numbered.{node_is, built_at, within_at, inputs_within}
use Rattle.plan_runs.proofs.operators.operator_at.Goals as goal

pub inputs_of-requires : goal.inputs_of-requires
inputs_of-requires c =
    inputs_within c.args.nodes.now c.args.place c.index-nodes-place.result c.requires.plan c.requires.place
    (node_is c.args.nodes.now _ c.args.place c.index-nodes-place.result refl c.requires.place c.index-nodes-place.is)

pub op_of-requires-clause-no_source : goal.op_of-requires-clause-no_source
op_of-requires-clause-no_source c =
    subst (λ (v : Node). is_source v.kind ≡ false) (node_is c.args.nodes.now _ c.args.place c.index-nodes-place.result refl c.requires.place c.index-nodes-place.is) c.requires.no_source

pub op_of-requires-clause-built : goal.op_of-requires-clause-built
op_of-requires-clause-built c =
    subst (λ (v : Node). is_built v.kind ≡ true) (node_is c.args.nodes.now _ c.args.place c.index-nodes-place.result refl c.requires.place c.index-nodes-place.is) (built_at c.args.nodes.now c.args.place c.requires.plan c.requires.place)

pub op_of-requires-clause-within : goal.op_of-requires-clause-within
op_of-requires-clause-within c =
    subst (λ (v : Node). (offset count : ℕ) → v.kind ≡ Fetch offset count → offset + count ≤ 2 ^ 64 - 1) (node_is c.args.nodes.now _ c.args.place c.index-nodes-place.result refl c.requires.place c.index-nodes-place.is) (within_at c.args.nodes.now c.args.place c.requires.plan c.requires.place)

pub returns : goal.returns
returns c =
    let here = node_is c.args.nodes.now _ c.args.place c.index-nodes-place.result refl c.requires.place c.index-nodes-place.is in
    let made = c.in_ok-new.ensures.ok in
    let op = c.in_ok-op_of.ensures in
    let ins = c.in_ok-inputs.ensures in
    let cut = c.deref.ensures.value in
    let v = c.index-nodes-place.result in
    ap meaning_of made ∙ (op ∙ (ap (λ xs. kind_meaning v.kind (map (λ s. s.now) xs) c.args.batch) cut ∙ (ap (λ is. kind_meaning v.kind is c.args.batch) ins
    ∙ ap (λ (x : Node). kind_meaning x.kind (input_schemas c.args.nodes.now x) c.args.batch) (sym here))))
