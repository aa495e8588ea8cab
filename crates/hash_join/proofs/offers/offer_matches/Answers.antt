use Rattle.std.proofs.Common.{◌≡◌, ◌+◌, ◌++◌, [], ◌∷◌, take, arith}
use Rattle.std.proofs.lemmas.Grind.{common_steps}
use Rattle.row_table.specs.Keys.{rows_match}
use Rattle.plan_nodes.specs.Kinds.{matching}
use Rattle.hash_join.proofs.GivenRows.{offered-more, seen-more}
use Rattle.hash_join.proofs.offers.offer_matches.Goals as goal

pub loop-y-preserved : goal.loop-y-preserved
loop-y-preserved c =
    let e : take (c.loop-y.y-index + 1) c.args.built.now ≡ take c.loop-y.y-index c.args.built.now ++ c.y-item.result ∷ [] = grind (arith, common_steps) in
    let f = rows_match (matching c.args.spec.now) c.args.x.now in
    let ys = take c.loop-y.y-index c.args.built.now in
    let zs = take (c.loop-y.y-index + 1) c.args.built.now in (
      seen-more f c.y-item.result ys zs c.loop-y.any c.in_ok-any.field-0 e c.loop-y.invariant.0 c.in_ok-any.ensures.0,
      offered-more f c.args.x.now c.y-item.result ys zs c.args.window.now c.loop-y.window c.offer_match.new.window e c.loop-y.invariant.1 c.in_ok-any.ensures.1,
    )
