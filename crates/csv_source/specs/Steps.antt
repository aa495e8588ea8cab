-- Steps that may be refused, one after another and over a list.
use Rattle.std.specs.Prelude.{ℕ, ◌+◌, List, [], ◌∷◌, Result, Ok, Err}

infixl 10 ◌>>=◌
-- the second step over what the first gives, unless it is refused
abbrev pub ◌>>=◌ : {A B F : Type 0} → Result A F → (A → Result B F) → Result B F
(Ok x) >>= f = f x
(Err e) >>= f = Err e

-- what the step gives at each item of a list, or the first refusal; the step is told the item's number, which counts up from n
abbrev pub each_ok : {A B F : Type 0} → (ℕ → A → Result B F) → ℕ → List A → Result (List B) F
each_ok f n [] = Ok []
each_ok f n (x ∷ xs) = do
  y ← f n x
  ys ← each_ok f (n + 1) xs
  Ok (y ∷ ys)
