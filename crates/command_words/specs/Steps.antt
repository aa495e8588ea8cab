-- Steps that may give nothing, one after another and over a list.
use Rattle.std.specs.Prelude.{List, [], ◌∷◌, Option, Some, None}

infixl 10 ◌>>=◌
-- the second step over what the first gives
abbrev pub ◌>>=◌ : {A B : Type 0} → Option A → (A → Option B) → Option B
None >>= f = None
(Some x) >>= f = f x

abbrev pub with_first : {B : Type 0} → B → Option (List B) → Option (List B)
with_first y None = None
with_first y (Some ys) = Some (y ∷ ys)

abbrev pub each_then : {B : Type 0} → Option B → Option (List B) → Option (List B)
each_then None ys = None
each_then (Some y) ys = with_first y ys

-- what the step gives at each item, where it gives something at all of them
abbrev pub each_some : {A B : Type 0} → (A → Option B) → List A → Option (List B)
each_some f [] = Some []
each_some f (x ∷ xs) = each_then (f x) (each_some f xs)
