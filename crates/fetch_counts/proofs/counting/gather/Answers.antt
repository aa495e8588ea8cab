use Rattle.std.proofs.Common.{◌<◌, length, refl, sym, subst, ◌∙◌, ◌∷◌, arith, slice_index_or}
use Rattle.fetch_counts.specs.Counts.{AreOfAll, AreBehind, Touch, AreApart}
use Rattle.fetch_counts.proofs.Counted.{gathered, behind_remove, apart_remove}
use Rattle.fetch_counts.proofs.counting.gather.Goals as goal

pub loop-place-init : goal.loop-place-init
loop-place-init c = record { counts = λ all a. a; behind = λ upto b. b; others = λ h. h; length = omega arith; capacity = refl }

pub loop-place-smaller : goal.loop-place-smaller
loop-place-smaller c = let less = c.remove.ensures.len in let a = c.loop-place.behind.ok.0 in let b = c.remove.new.self.ok.0 in omega arith

pub loop-place-preserved : goal.loop-place-preserved
loop-place-preserved c =
    let i = c.loop-place.invariant in
    let xs = c.loop-place.behind.items in
    let p = c.in-Some.place in
    let within : p < length xs = subst (λ ys. p < length ys) c.deref.ensures.value c.in-Some.ensures.some.0 in
    let near : Touch c.loop-place.run c.remove.result =
    subst (λ r. Touch c.loop-place.run r) (sym c.remove.ensures.value)
    (subst (λ ys. Touch c.loop-place.run (slice_index_or ys p c.remove.result)) c.deref.ensures.value (c.in-Some.ensures.some.1 c.remove.result)) in
    record {
      counts = λ all a.
          subst (λ ys. AreOfAll (c.joined-run.result ∷ ys) all) (sym c.remove.ensures.items)
          (gathered xs p c.loop-place.run c.remove.result c.joined-run.result all within c.remove.ensures.value near c.joined-run.ensures (i.counts all a));
      behind = λ upto b. subst (λ ys. AreBehind upto ys) (sym c.remove.ensures.items) (behind_remove upto xs p within (i.behind upto b));
      others = λ h. subst (λ ys. AreApart ys) (sym c.remove.ensures.items) (apart_remove xs p within (i.others h));
      length = (let less = c.remove.ensures.len in let a = c.loop-place.behind.ok.0 in let b = c.remove.new.self.ok.0 in let l = i.length in omega arith);
      capacity = c.remove.ensures.capacity ∙ i.capacity;
    }

pub returns-clause-apart : goal.returns-clause-apart
returns-clause-apart c k d lt near =
    c.in_default.ensures.none k d (subst (λ ys. k < length ys) (sym c.deref.ensures.value) lt)
    (subst (λ ys. Touch c.loop-place.run (slice_index_or ys k d)) (sym c.deref.ensures.value) near)
