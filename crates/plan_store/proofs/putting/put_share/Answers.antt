use Rattle.std.proofs.Common.{◌-◌, ◌<◌, length, [], Some, refl, sym, subst}
use Rattle.std.proofs.lemmas.List.{length-map}
use Rattle.plan_store.proofs.RowsPut.{row_read, row_set}
use Rattle.plan_store.proofs.putting.put_share.Goals as goal

pub index_mut-requires : goal.index_mut-requires
index_mut-requires g c =
    let within : c.args.node - 1 < length c.args.shares.now.items = simp length-map at c.requires.place in
    let row = c.index_mut-row.result.now in
    let is = row_read c.args.shares.now.items (c.args.node - 1) row [] within c.index_mut-row.ensures.value in
    let at_seat : (c.args.worker - 1) < length row.items = subst (λ xs. (c.args.worker - 1) < length xs) (sym is) (c.requires.seat []) in
    let ok = row.ok.0 in
    subst (λ k. (c.args.worker - 1) < k) (sym ok) at_seat

pub returns : goal.returns
returns g c d =
    let within : c.args.node - 1 < length c.args.shares.now.items = simp length-map at c.requires.place in
    row_set c.args.shares.now.items (c.args.node - 1) c.index_mut-row.result.now _ (Some c.args.share) (c.args.worker - 1) d within c.index_mut-row.ensures.value refl
