-- A word behind a space, as each word of a line but the first stands.
use Rattle.std.specs.Prelude.{ℕ, List, ◌∷◌}

abbrev pub spaced : List ℕ → List ℕ
spaced word = 32 ∷ word
