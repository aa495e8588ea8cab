use Rattle.std.proofs.Common.{◌≡◌, ℕ, [], List, Vec, map, slice_set, ap, ◌∙◌}
use Rattle.std.proofs.lemmas.List.{map-set}
use Rattle.plan_store.proofs.taking.take_row.Goals as goal

row_out : {A Z : Type 0} (xs : List (Vec A Z)) (p : ℕ) (r : Vec A Z) → r.items ≡ [] → map (λ (v : Vec A Z). v.items) (slice_set xs p r) ≡ slice_set (map (λ (v : Vec A Z). v.items) xs) p []
row_out {A} {Z} xs p r e = map-set (λ (v : Vec A Z). v.items) xs p r ∙ ap (λ (l : List A). slice_set (map (λ (v : Vec A Z). v.items) xs) p l) e

pub returns-clause-left : goal.returns-clause-left
returns-clause-left g c =
    row_out c.args.shares.now.items c.args.place c.replace.new.dest (ap (λ v. v.items) c.replace.ensures.after ∙ c.new.ensures.items)
