-- A Vec of Vecs as a list of lists.
use Rattle.std.proofs.Common.{◌≡◌, ℕ, zero, suc, ◌<◌, List, [], ◌∷◌, length, map, Vec, ap, ◌∙◌, arith, slice_index_or, slice_set}
use Rattle.std.proofs.lemmas.List.{map-set}

pub row_read : {A Z : Type 0} (xs : List (Vec A Z)) (p : ℕ) (r : Vec A Z) (d : List A) → p < length xs → r ≡ slice_index_or xs p r → r.items ≡ slice_index_or (map (λ (v : Vec A Z). v.items) xs) p d
row_read [] p r d lt e = absurd (omega arith)
row_read {A} {Z} (x ∷ xs) zero r d lt e = ap (λ (v : Vec A Z). v.items) e
row_read (x ∷ xs) (suc p) r d lt e = row_read xs p r d (omega arith) e

pub row_set : {A Z : Type 0} (xs : List (Vec A Z)) (p : ℕ) (r r' : Vec A Z) (x : A) (q : ℕ) (d : List A) → p < length xs → r ≡ slice_index_or xs p r → r'.items ≡ slice_set r.items q x
    → map (λ (v : Vec A Z). v.items) (slice_set xs p r') ≡ slice_set (map (λ (v : Vec A Z). v.items) xs) p (slice_set (slice_index_or (map (λ (v : Vec A Z). v.items) xs) p d) q x)
row_set {A} {Z} xs p r r' x q d lt e is =
    map-set (λ (v : Vec A Z). v.items) xs p r'
    ∙ ap (λ (l : List A). slice_set (map (λ (v : Vec A Z). v.items) xs) p l) (is ∙ ap (λ (l : List A). slice_set l q x) (row_read xs p r d lt e))

pub row_put_whole : {A Z : Type 0} (xs : List (Vec A Z)) (p : ℕ) (r : Vec A Z) → map (λ (v : Vec A Z). v.items) (slice_set xs p r) ≡ slice_set (map (λ (v : Vec A Z). v.items) xs) p r.items
row_put_whole {A} {Z} xs p r = map-set (λ (v : Vec A Z). v.items) xs p r
