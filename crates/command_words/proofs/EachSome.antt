-- How a loop that reads one piece after another comes to `each_some`.
use Rattle.std.proofs.Common.{◌≡◌, List, [], ◌∷◌, ◌++◌, length, drop, get_or, Option, Some, None, Err, ℕ, ◌<◌, ◌+◌, add-one, drop-cons, refl, sym, ap, ◌∙◌, append_assoc, map, append-nil}
use Rattle.std.proofs.Math.Seq.{drop-length}
use Rattle.scalar_value.specs.declared.memory.Or.{Or}
use Rattle.scalar_value.specs.declared.memory.Or.TheVariants.{Fault, Memory}
use Rattle.scalar_value.specs.Gives.{GivesSome}
use Rattle.command_words.specs.Steps.{each_some, each_then, with_first}

-- the items that were made, before those to come
abbrev pub with_front : {B : Type 0} → List B → Option (List B) → Option (List B)
with_front made None = None
with_front made (Some ys) = Some (made ++ ys)

pub with_front-nil : {B : Type 0} (o : Option (List B)) → with_front [] o ≡ o
with_front-nil None = refl
with_front-nil (Some ys) = refl

with_front-first : {B : Type 0} (made : List B) (y : B) (o : Option (List B)) → with_front (made ++ y ∷ []) o ≡ with_front made (with_first y o)
with_front-first made y None = refl
with_front-first made y (Some ys) = ap (λ zs. Some zs) (append_assoc made (y ∷ []) ys)

module _ {A X B : Type 0} (v : A → X) (f : X → Option B) where
  one_more : (xs : List A) (i : ℕ) (d : A) → i < length xs → each_some f (map v (drop i xs)) ≡ each_then (f (v (get_or xs i d))) (each_some f (map v (drop (i + 1) xs)))
  one_more xs i d lt =
      ap (λ l. each_some f (map v l)) (drop-cons xs i d lt) ∙ ap (λ k. each_then (f (v (get_or xs i d))) (each_some f (map v (drop k xs)))) (sym (add-one i))

  pub goes_on : (xs : List A) (i : ℕ) (d : A) (made : List B) (y : B) → i < length xs → f (v (get_or xs i d)) ≡ Some y
      → with_front (made ++ y ∷ []) (each_some f (map v (drop (i + 1) xs))) ≡ with_front made (each_some f (map v (drop i xs)))
  goes_on xs i d made y lt e =
      with_front-first made y _ ∙ ap (with_front made) (sym (one_more xs i d lt ∙ ap (λ o. each_then o (each_some f (map v (drop (i + 1) xs)))) e))

  pub stops : (xs : List A) (i : ℕ) (d : A) (made : List B) → i < length xs → f (v (get_or xs i d)) ≡ None → with_front made (each_some f (map v (drop i xs))) ≡ None
  stops xs i d made lt e = ap (with_front made) (one_more xs i d lt ∙ ap (λ o. each_then o (each_some f (map v (drop (i + 1) xs)))) e)

  -- the same for the answer of a reader that refused the piece, or had no memory for it
  pub refused : {F : Type 0} (xs : List A) (i : ℕ) (d : A) (made : List B) (r : Or F) → i < length xs → GivesSome {T = B} (Err r) (f (v (get_or xs i d)))
      → with_front made (each_some f (map v (drop i xs))) ≡ each_some f (map v xs) → GivesSome {T = List B} (Err r) (each_some f (map v xs))
  refused xs i d made (Fault g) lt h all = sym all ∙ stops xs i d made lt h
  refused xs i d made Memory lt h all = tt

  pub ends : (xs : List A) (made : List B) → with_front made (each_some f (map v (drop (length xs) xs))) ≡ Some made
  ends xs made = ap (λ l. with_front made (each_some f (map v l))) (drop-length xs) ∙ ap (λ l. Some l) (append-nil made)
