-- Words with a space between them.
use Rattle.std.proofs.Common.{◌≡◌, ℕ, ◌++◌, List, [], ◌∷◌, sym, ap}
use Rattle.std.specs.List.{flat_map, join_with_byte}
use Rattle.std.proofs.lemmas.List.{append-nil}
use Rattle.run_report.specs.Spaced.{spaced}

-- words with a space between them are the first word, and each further one behind a space
pub joined : (word : List ℕ) (words : List (List ℕ)) → join_with_byte 32 (word ∷ words) ≡ word ++ flat_map spaced words
joined word [] = sym (append-nil word)
joined word (next ∷ words) = ap (λ t. word ++ (32 ∷ t)) (joined next words)
