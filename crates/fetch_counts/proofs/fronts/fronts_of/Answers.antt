use Rattle.std.proofs.Common.{◌+◌, [], ◌∷◌, ℕ, length, slice_index_or, sym, ap, subst, ◌∙◌}
use Rattle.std.proofs.lemmas.List.{length-append, get_or_read}
use Rattle.plan_nodes.specs.Kinds.{kind_meaning}
use Rattle.plan_nodes.specs.declared.node.Node.{Node}
use Rattle.plan_store.proofs.Pushed.{pushed_at}
use Rattle.fetch_counts.specs.declared.front.Front.{Front}
use Rattle.fetch_counts.specs.Counts.{IsFresh}
use Rattle.fetch_counts.proofs.fronts.fronts_of.Goals as goal

pub loop-node-preserved : goal.loop-node-preserved
loop-node-preserved c =
    let i = c.loop-node.invariant in
    let nodes = c.args.nodes.now in
    let index = c.loop-node.node-index in
    let made = c.loop-node.made.items in
    let is : ℕ → Front → Type 0 = λ j f. (v : Node) → IsFresh (kind_meaning (slice_index_or nodes j v).kind [] 1).wanted f in
    let here : is index c.front_of.result =
    λ v. subst (λ (x : Node). IsFresh (kind_meaning x.kind [] 1).wanted c.front_of.result)
    (get_or_read nodes index c.node-item.result c.loop-node-test.true c.node-item.is v)
    (subst (λ o. IsFresh o c.front_of.result) c.wanted_of.ensures c.front_of.ensures) in (
      ap length c.in_ok-push.ensures.items ∙ length-append made (c.front_of.result ∷ []) ∙ ap (λ n. n + 1) i.0,
      λ k v d lt. subst (λ xs. IsFresh (kind_meaning (slice_index_or nodes k v).kind [] 1).wanted (slice_index_or xs k d)) (sym c.in_ok-push.ensures.items)
          (pushed_at is made c.front_of.result index i.0 (λ j e low w. i.1 j w e low) here k d lt v),
    )
