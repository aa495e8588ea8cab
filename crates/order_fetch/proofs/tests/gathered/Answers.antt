use Rattle.std.proofs.Common.{[], ◌∷◌}
use Rattle.plan_machine.specs.Batch.{gathered}
use Rattle.plan_nodes.specs.Operators.{flat, folded_of, item}
use Rattle.order_fetch.proofs.Tested.{both}
use Rattle.order_fetch.proofs.tests.gathered.Goals as goal

pub seal-requires : goal.seal-requires
seal-requires g c =
    let f = c.requires.fits in
    let m = g.O.Operator.meaning c.args.op.now in
    let kinds = folded_of m f.0 in
    let p = item c.args.left 0 ∷ [] in
    let q = item c.args.right 0 ∷ [] in
    let one = c.in_ok-fold.ensures c.requires.folds f.0 [] f.1 (c.in_ok-first.ensures kinds) f.2 in
    let two = c.in_ok-fold-2.ensures c.requires.folds f.0 [] f.1 (c.in_ok-second.ensures kinds) f.3 in
    let each = both (g.O.Operator.local_is m kinds) c.new-locals.result c.push.new.self c.push-2.new.self c.fold.new.local c.fold-2.new.local p q c.in_ok-push-2.ensures.appended c.in_ok-push.ensures.appended c.new-locals.ensures one two in
    (f.0, p ∷ q ∷ [], f.1, each)

pub tails-k-end-requires : goal.tails-k-end-requires
tails-k-end-requires g c =
    let f = c.requires.fits in
    let m = g.O.Operator.meaning c.args.op.now in
    let kinds = folded_of m f.0 in
    let p = item c.args.left 0 ∷ [] in
    let q = item c.args.right 0 ∷ [] in
    let one = c.in_ok-fold.ensures c.requires.folds f.0 [] f.1 (c.in_ok-first.ensures kinds) f.2 in
    let two = c.in_ok-fold-2.ensures c.requires.folds f.0 [] f.1 (c.in_ok-second.ensures kinds) f.3 in
    let each = both (g.O.Operator.local_is m kinds) c.new-locals.result c.push.new.self c.push-2.new.self c.fold.new.local c.fold-2.new.local p q c.in_ok-push-2.ensures.appended c.in_ok-push.ensures.appended c.new-locals.ensures one two in
    (f.0, gathered (flat (p ∷ q ∷ [])), [], f.1, c.in_ok-shared.ensures c.requires.folds f.0 (p ∷ q ∷ []) f.1 each)

pub tail-requires : goal.tail-requires
tail-requires g c =
    let f = c.requires.fits in
    let m = g.O.Operator.meaning c.args.op.now in
    let kinds = folded_of m f.0 in
    let p = item c.args.left 0 ∷ [] in
    let q = item c.args.right 0 ∷ [] in
    let one = c.in_ok-fold.ensures c.requires.folds f.0 [] f.1 (c.in_ok-first.ensures kinds) f.2 in
    let two = c.in_ok-fold-2.ensures c.requires.folds f.0 [] f.1 (c.in_ok-second.ensures kinds) f.3 in
    let each = both (g.O.Operator.local_is m kinds) c.new-locals.result c.push.new.self c.push-2.new.self c.fold.new.local c.fold-2.new.local p q c.in_ok-push-2.ensures.appended c.in_ok-push.ensures.appended c.new-locals.ensures one two in
    (f.0, gathered (flat (p ∷ q ∷ [])), [], f.1, c.in_ok-shared.ensures c.requires.folds f.0 (p ∷ q ∷ []) f.1 each)
