use Rattle.std.proofs.Common.{◌≡◌, ◌+◌, ◌++◌, [], ◌∷◌, take, not, sym, ◌∙◌, ap, arith}
use Rattle.std.specs.List.{list_any}
use Rattle.std.proofs.lemmas.Grind.{common_steps}
use Rattle.row_table.specs.Keys.{rows_match}
use Rattle.plan_nodes.specs.Kinds.{matching}
use Rattle.hash_join.proofs.GivenRows.{kept-more, kept-same}
use Rattle.hash_join.proofs.unmatched.unmatched_of.Goals as goal
use Rattle.hash_join.proofs.unmatched.unmatched_of.Goals.{then-not-is_matched+in_ok-copy+in_ok-push, else-not-is_matched}

pub loop-y-preserved : goal.loop-y-preserved
loop-y-preserved c =
    let e : take (c.loop-y.y-index + 1) c.args.built.now ≡ take c.loop-y.y-index c.args.built.now ++ c.y-item.result ∷ [] = grind (arith, common_steps) in
    elim c.if-not-is_matched.branch [
      | then-not-is_matched+in_ok-copy+in_ok-push w ↦
          kept-more (λ y. not (list_any (λ x. rows_match (matching c.args.spec.now) x y) c.args.streamed.now)) c.y-item.result
          (take c.loop-y.y-index c.args.built.now) (take (c.loop-y.y-index + 1) c.args.built.now) c.loop-y.made c.if-not-is_matched.made e c.loop-y.invariant
          (ap not (sym c.is_matched.ensures ∙ w.if-not-is_matched.true))
          (w.made-is ∙ w.in_ok-push.ensures.appended ∙ ap (λ y. c.loop-y.made ++ y ∷ []) w.in_ok-copy.ensures)
      | else-not-is_matched w ↦
          kept-same (λ y. not (list_any (λ x. rows_match (matching c.args.spec.now) x y) c.args.streamed.now)) c.y-item.result
          (take c.loop-y.y-index c.args.built.now) (take (c.loop-y.y-index + 1) c.args.built.now) c.loop-y.made c.if-not-is_matched.made e c.loop-y.invariant
          (ap not (sym c.is_matched.ensures ∙ w.if-not-is_matched.false))
          w.made-is
    ]
