use Rattle.std.proofs.Common.{◌<◌, length, arith, [], None, slice_set, ap, sym, subst}
use Rattle.plan_store.proofs.RowsPut.{row_read, row_set}
use Rattle.plan_store.proofs.taking.take_share.Goals as goal

pub index_mut-requires : goal.index_mut-requires
index_mut-requires g c =
    let within : c.args.place < length c.args.shares.now.items = let l = c.args.shares.now.ok.0 in let lt = c.requires.place in omega arith in
    let row = c.index_mut-row.result.now in
    let is = row_read c.args.shares.now.items c.args.place row [] within c.index_mut-row.ensures.value in
    let at_seat : c.args.seat < length row.items = subst (λ xs. c.args.seat < length xs) (sym is) (c.requires.seat []) in
    let ok = row.ok.0 in
    subst (λ k. c.args.seat < k) (sym ok) at_seat

pub returns-clause-left : goal.returns-clause-left
returns-clause-left g c d =
    let within : c.args.place < length c.args.shares.now.items = let l = c.args.shares.now.ok.0 in let lt = c.requires.place in omega arith in
    row_set c.args.shares.now.items c.args.place c.index_mut-row.result.now _ None c.args.seat d within c.index_mut-row.ensures.value (ap (λ y. slice_set c.index_mut-row.result.now.items c.args.seat y) c.take.ensures.after)
