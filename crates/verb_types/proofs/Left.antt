-- Columns that are left, one more.
use Rattle.std.proofs.Common.{◌≡◌, ℕ, not, List, [], ◌∷◌, ◌++◌}
use Rattle.std.proofs.lemmas.List.Elements.{filter-append}
use Rattle.selections.specs.Columns.{is_among}
use Rattle.verb_types.specs.Steps.{without_columns}

pub left_more : (xs : List (ℕ × List ℕ)) (c : ℕ × List ℕ) (away : List ℕ) → without_columns (xs ++ c ∷ []) away ≡ without_columns xs away ++ without_columns (c ∷ []) away
left_more xs c away = filter-append (λ (x : ℕ × List ℕ). not (is_among away x.0)) xs (c ∷ [])
