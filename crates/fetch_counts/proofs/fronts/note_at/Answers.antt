use Rattle.std.proofs.Common.{◌<◌, ◌-◌, length, refl, sym, subst, ◌∙◌, arith}
use Rattle.std.proofs.lemmas.List.{get_or_read}
use Rattle.fetch_counts.specs.Counts.{IsNoted}
use Rattle.fetch_counts.proofs.Roomy.{none_wanted}
use Rattle.fetch_counts.proofs.fronts.note_at.Goals as goal

pub returns-then-is_some : goal.returns-then-is_some
returns-then-is_some c d =
    let within : c.args.node - 1 < length c.args.fronts.now.items = let l = c.args.fronts.now.ok.0 in let lt = c.requires.node.1 in omega arith in
    let e = c.note_folded.ensures in (
      c.note_folded.new.front,
      refl,
      subst (λ x. IsNoted x c.args.index c.args.rows c.note_folded.new.front) (get_or_read c.args.fronts.now.items (c.args.node - 1) c.index_mut-front.result.now within c.index_mut-front.ensures.value d)
          (record { wanted = e.wanted; counts = λ some. e.counts; room = e.capacity; behind = e.length }),
    )

pub returns-else-is_some : goal.returns-else-is_some
returns-else-is_some c d =
    let within : c.args.node - 1 < length c.args.fronts.now.items = let l = c.args.fronts.now.ok.0 in let lt = c.requires.node.1 in omega arith in
    let front = c.index_mut-front.result.now in (
      front,
      refl,
      subst (λ x. IsNoted x c.args.index c.args.rows front) (get_or_read c.args.fronts.now.items (c.args.node - 1) front within c.index_mut-front.ensures.value d)
          (record {
            wanted = refl;
            counts = λ some. absurd (none_wanted front.wanted (sym c.is_some.ensures ∙ c.if-is_some.false) some);
            room = refl;
            behind = omega arith;
          }),
    )
