use Rattle.std.proofs.Common.{◌<◌, ◌+◌, length, refl, subst, sym, ◌∙◌, arith}
use Rattle.fetch_counts.specs.Counts.{AreSameCounts}
use Rattle.fetch_counts.proofs.Roomy.{RoomBelow, same_count, same_set, room_set, room_none, none_wanted, set_again}
use Rattle.fetch_counts.proofs.fronts.reserve_fronts.Goals as goal
use Rattle.fetch_counts.proofs.fronts.reserve_fronts.Goals.{then-is_some+in_ok-reserve_front, else-is_some}

pub loop-place-init : goal.loop-place-init
loop-place-init c = (record { size = refl; each = λ k d lt. same_count _ }, λ k d low within some. absurd (omega arith))

pub returns-in_err-reserve_front-clause-counts : goal.returns-in_err-reserve_front-clause-counts
returns-in_err-reserve_front-clause-counts c =
    let within : c.loop-place.place < length c.loop-place.fronts.items = let l = c.loop-place.fronts.ok.0 in let a = c.loop-place.invariant.0.size in let b = c.args.fronts.now.ok.0 in let n = c.len-place-end.ensures in let lt = c.loop-place-test.true in omega arith in
    let e = c.reserve_front.ensures in
    same_set c.args.fronts.now.items c.loop-place.fronts.items c.loop-place.place c.index_mut-front.result.now c.reserve_front.new.front within c.index_mut-front.ensures.value
    (record { wanted = e.wanted; first = e.first; behind = e.behind; room = e.capacity }) c.loop-place.invariant.0

pub loop-place-preserved : goal.loop-place-preserved
loop-place-preserved c =
    let within : c.loop-place.place < length c.loop-place.fronts.items = let l = c.loop-place.fronts.ok.0 in let a = c.loop-place.invariant.0.size in let b = c.args.fronts.now.ok.0 in let n = c.len-place-end.ensures in let lt = c.loop-place-test.true in omega arith in
    elim c.if-is_some.branch [
      | then-is_some+in_ok-reserve_front w ↦
          let e = w.reserve_front.ensures in
          let fronts = c.loop-place.fronts.items in
          subst (λ x. AreSameCounts c.args.fronts.now.items x.items × RoomBelow (c.loop-place.place + 1) c.args.more x.items) (sym w.fronts-is) (
            same_set c.args.fronts.now.items fronts c.loop-place.place c.index_mut-front.result.now w.reserve_front.new.front within c.index_mut-front.ensures.value
                (record { wanted = e.wanted; first = e.first; behind = e.behind; room = e.capacity }) c.loop-place.invariant.0,
            room_set fronts c.loop-place.place c.args.more w.reserve_front.new.front within w.in_ok-reserve_front.ensures.room c.loop-place.invariant.1,
          )
      | else-is_some w ↦
          let fronts = c.loop-place.fronts.items in
          let again = set_again fronts c.loop-place.place c.index_mut-front.result.now c.index_mut-front.ensures.value in
          subst (λ x. AreSameCounts c.args.fronts.now.items x.items × RoomBelow (c.loop-place.place + 1) c.args.more x.items) (sym w.fronts-is)
          (subst (λ xs. AreSameCounts c.args.fronts.now.items xs × RoomBelow (c.loop-place.place + 1) c.args.more xs) again (
            c.loop-place.invariant.0,
            room_none fronts c.loop-place.place c.args.more c.index_mut-front.result.now within c.index_mut-front.ensures.value
                (none_wanted c.index_mut-front.result.now.wanted (sym c.is_some.ensures ∙ w.if-is_some.false)) c.loop-place.invariant.1,
          ))
    ]

pub returns-clause-counts : goal.returns-clause-counts
returns-clause-counts c = c.loop-place.invariant.0

pub returns-clause-room : goal.returns-clause-room
returns-clause-room c k d within some = c.loop-place.invariant.1 k d (let l = c.loop-place.fronts.ok.0 in let a = c.loop-place.invariant.0.size in let b = c.args.fronts.now.ok.0 in let n = c.len-place-end.ensures in let no = c.loop-place-test.false in omega arith) within some
