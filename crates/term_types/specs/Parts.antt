-- The parts of a call as a list.
use Rattle.std.specs.Prelude.{ℕ, List, [], ◌∷◌}
use Rattle.term_calls.specs.declared.piece.Piece.{Piece}
use Rattle.term_types.specs.declared.parts.Parts.{Parts}
use Rattle.term_types.specs.declared.parts.Parts.TheVariants as held

abbrev pub parts_list : Parts → List (ℕ × Piece)
parts_list held.None = []
parts_list (held.One a) = a ∷ []
parts_list (held.Two a b) = a ∷ b ∷ []
parts_list (held.Three a b c) = a ∷ b ∷ c ∷ []
parts_list (held.More a b c d rest) = a ∷ b ∷ c ∷ d ∷ rest
