use Rattle.std.proofs.Common.{◌≡◌, true, [], ◌∷◌, ◌++◌, sym, ap, ◌∙◌}
use Rattle.plan_machine.specs.Batch.{gathered}
use Rattle.plan_nodes.specs.Operators.{flat, first_of, folded_of, item}
use Rattle.hash_join.proofs.Tested.{single}
use Rattle.hash_join.proofs.tests.run.Goals as goal

pub seal-requires : goal.seal-requires
seal-requires g c =
    let f = c.requires.fits in
    let m = g.O.Operator.meaning c.args.op.now in
    let kinds = folded_of m f.0 in
    let p = item c.args.right 0 ∷ [] in
    let one = c.in_ok-fold.ensures c.requires.folds f.0 [] f.1 (c.in_ok-gathered.ensures kinds) f.3 in
    let each = single (g.O.Operator.local_is m kinds) c.new-folded.result c.push.new.self c.fold.new.local p c.in_ok-push.ensures.appended c.new-folded.ensures one in
    (f.0, p ∷ [], f.1, each)

pub stream-requires-clause-stands : goal.stream-requires-clause-stands
stream-requires-clause-stands g c =
    let f = c.requires.fits in
    let m = g.O.Operator.meaning c.args.op.now in
    let kinds = folded_of m f.0 in
    let p = item c.args.right 0 ∷ [] in
    let one = c.in_ok-fold.ensures c.requires.folds f.0 [] f.1 (c.in_ok-gathered.ensures kinds) f.3 in
    let each = single (g.O.Operator.local_is m kinds) c.new-folded.result c.push.new.self c.fold.new.local p c.in_ok-push.ensures.appended c.new-folded.ensures one in
    let built = gathered (flat (p ∷ [])) in
    let shared = c.in_ok-shared.ensures c.requires.folds f.0 (p ∷ []) f.1 each in
    let fresh = c.in_ok-part.ensures (first_of f.0) in
    (f.0, built, [], f.1, shared, fresh, f.2)

pub stream-requires-2-clause-stands : goal.stream-requires-2-clause-stands
stream-requires-2-clause-stands g c =
    let f = c.requires.fits in
    let m = g.O.Operator.meaning c.args.op.now in
    let kinds = folded_of m f.0 in
    let p = item c.args.right 0 ∷ [] in
    let one = c.in_ok-fold.ensures c.requires.folds f.0 [] f.1 (c.in_ok-gathered.ensures kinds) f.3 in
    let each = single (g.O.Operator.local_is m kinds) c.new-folded.result c.push.new.self c.fold.new.local p c.in_ok-push.ensures.appended c.new-folded.ensures one in
    let built = gathered (flat (p ∷ [])) in
    let shared = c.in_ok-shared.ensures c.requires.folds f.0 (p ∷ []) f.1 each in
    let fresh = c.in_ok-part.ensures (first_of f.0) in
    let took = c.in_ok-stream.ensures c.requires.streams f.0 built [] f.1 shared fresh f.2 in
    let s = item c.args.left.now 0 ∷ [] in
    (f.0, built, s, f.1, shared, took.0, f.2)

pub close-requires : goal.close-requires
close-requires g c =
    let f = c.requires.fits in
    let m = g.O.Operator.meaning c.args.op.now in
    let kinds = folded_of m f.0 in
    let p = item c.args.right 0 ∷ [] in
    let one = c.in_ok-fold.ensures c.requires.folds f.0 [] f.1 (c.in_ok-gathered.ensures kinds) f.3 in
    let each = single (g.O.Operator.local_is m kinds) c.new-folded.result c.push.new.self c.fold.new.local p c.in_ok-push.ensures.appended c.new-folded.ensures one in
    let built = gathered (flat (p ∷ [])) in
    let shared = c.in_ok-shared.ensures c.requires.folds f.0 (p ∷ []) f.1 each in
    let fresh = c.in_ok-part.ensures (first_of f.0) in
    let took = c.in_ok-stream.ensures c.requires.streams f.0 built [] f.1 shared fresh f.2 in
    let s = item c.args.left.now 0 ∷ [] in
    let more = c.in_ok-stream-2.ensures c.requires.streams f.0 built s f.1 shared took.0 f.2 in
    let t = s ++ item c.args.left.now 3 ∷ [] in
    let parts = single (g.O.Operator.local_is m (first_of f.0)) c.new-streamed.result c.push-4.new.self c.stream-2.new.local t c.in_ok-push-4.ensures.appended c.new-streamed.ensures more.0 in
    (f.0, built, t ∷ [], f.1, shared, parts)

pub tails-k-end-requires : goal.tails-k-end-requires
tails-k-end-requires g c =
    let f = c.requires.fits in
    let m = g.O.Operator.meaning c.args.op.now in
    let kinds = folded_of m f.0 in
    let p = item c.args.right 0 ∷ [] in
    let one = c.in_ok-fold.ensures c.requires.folds f.0 [] f.1 (c.in_ok-gathered.ensures kinds) f.3 in
    let each = single (g.O.Operator.local_is m kinds) c.new-folded.result c.push.new.self c.fold.new.local p c.in_ok-push.ensures.appended c.new-folded.ensures one in
    let built = gathered (flat (p ∷ [])) in
    let shared = c.in_ok-shared.ensures c.requires.folds f.0 (p ∷ []) f.1 each in
    let fresh = c.in_ok-part.ensures (first_of f.0) in
    let took = c.in_ok-stream.ensures c.requires.streams f.0 built [] f.1 shared fresh f.2 in
    let s = item c.args.left.now 0 ∷ [] in
    let more = c.in_ok-stream-2.ensures c.requires.streams f.0 built s f.1 shared took.0 f.2 in
    let t = s ++ item c.args.left.now 3 ∷ [] in
    let parts = single (g.O.Operator.local_is m (first_of f.0)) c.new-streamed.result c.push-4.new.self c.stream-2.new.local t c.in_ok-push-4.ensures.appended c.new-streamed.ensures more.0 in
    let tails : (g.O.Operator.meaning c.args.op.now).shape.tails ≡ true = sym (ap (λ s. s.tails) c.shape.ensures) ∙ c.if-not-shape.false in
    let closed = c.in_ok-closed.ensures c.requires.streams tails f.0 built (t ∷ []) f.1 shared parts in
    (f.0, built, flat (t ∷ []), f.1, closed)

pub tail-requires : goal.tail-requires
tail-requires g c =
    let f = c.requires.fits in
    let m = g.O.Operator.meaning c.args.op.now in
    let kinds = folded_of m f.0 in
    let p = item c.args.right 0 ∷ [] in
    let one = c.in_ok-fold.ensures c.requires.folds f.0 [] f.1 (c.in_ok-gathered.ensures kinds) f.3 in
    let each = single (g.O.Operator.local_is m kinds) c.new-folded.result c.push.new.self c.fold.new.local p c.in_ok-push.ensures.appended c.new-folded.ensures one in
    let built = gathered (flat (p ∷ [])) in
    let shared = c.in_ok-shared.ensures c.requires.folds f.0 (p ∷ []) f.1 each in
    let fresh = c.in_ok-part.ensures (first_of f.0) in
    let took = c.in_ok-stream.ensures c.requires.streams f.0 built [] f.1 shared fresh f.2 in
    let s = item c.args.left.now 0 ∷ [] in
    let more = c.in_ok-stream-2.ensures c.requires.streams f.0 built s f.1 shared took.0 f.2 in
    let t = s ++ item c.args.left.now 3 ∷ [] in
    let parts = single (g.O.Operator.local_is m (first_of f.0)) c.new-streamed.result c.push-4.new.self c.stream-2.new.local t c.in_ok-push-4.ensures.appended c.new-streamed.ensures more.0 in
    let tails : (g.O.Operator.meaning c.args.op.now).shape.tails ≡ true = sym (ap (λ s. s.tails) c.shape.ensures) ∙ c.if-not-shape.false in
    let closed = c.in_ok-closed.ensures c.requires.streams tails f.0 built (t ∷ []) f.1 shared parts in
    (f.0, built, flat (t ∷ []), f.1, closed)
