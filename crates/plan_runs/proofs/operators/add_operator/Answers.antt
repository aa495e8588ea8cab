use Rattle.std.proofs.Common.{◌≡◌, suc, true, false, ◌++◌, [], ◌∷◌, refl, sym, ap, subst, ◌∙◌}
use Rattle.plan_nodes.specs.declared.node.Node.{Node}
use Rattle.plan_nodes.specs.Kinds.{is_source}
use Rattle.op_set.specs.Meanings.{meaning_of}
use Rattle.plan_runs.specs.SoFar.{AreFirst}
use Rattle.plan_runs.proofs.Numbered.{node_is, past_source, past_other, on_ok}
use Rattle.plan_runs.proofs.operators.add_operator.Goals as goal

pub returns-then-is_source : goal.returns-then-is_source
returns-then-is_source c =
    past_source meaning_of c.args.nodes.now c.args.batch c.args.place c.args.ops.now c.requires.place
    (subst (λ (v : Node). is_source v.kind ≡ true) (sym (node_is c.args.nodes.now _ c.args.place c.index-nodes-place.result refl c.requires.place c.index-nodes-place.is ∙ c.index-nodes-place.is)) (sym c.is_source.ensures ∙ c.if-is_source.true))
    c.requires.so_far

pub operator_at-requires-clause-no_source : goal.operator_at-requires-clause-no_source
operator_at-requires-clause-no_source c =
    subst (λ (v : Node). is_source v.kind ≡ false) (sym (node_is c.args.nodes.now _ c.args.place c.index-nodes-place.result refl c.requires.place c.index-nodes-place.is ∙ c.index-nodes-place.is)) (sym c.is_source.ensures ∙ c.if-is_source.false)

pub returns : goal.returns
returns c =
    let other = subst (λ (v : Node). is_source v.kind ≡ false) (sym (node_is c.args.nodes.now _ c.args.place c.index-nodes-place.result refl c.requires.place c.index-nodes-place.is ∙ c.index-nodes-place.is)) (sym c.is_source.ensures ∙ c.if-is_source.false) in
    on_ok c.push.result _ (AreFirst meaning_of c.args.nodes.now c.args.batch (suc c.args.place) c.push.new.self)
    (λ same. subst (λ ops. AreFirst meaning_of c.args.nodes.now c.args.batch (suc c.args.place) ops) (sym same)
    (past_other meaning_of c.args.nodes.now c.args.batch c.args.place c.args.ops.now c.in_ok-op.op c.requires.place other c.in_ok-op.ensures c.requires.so_far))
    c.push.ensures.appended
