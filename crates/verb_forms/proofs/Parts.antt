-- The expressions of `mutate`, one after the other.
use Rattle.std.proofs.Common.{◌≡◌, ℕ, ◌+◌, ◌<◌, Bool, false, ◌&&◌, List, ◌∷◌, length, drop, get_or, sym, ◌∙◌, ap}
use Rattle.std.proofs.lemmas.List.{drop_more}
use Rattle.row_table.specs.declared.field.Field.{Field}
use Rattle.verb_forms.specs.declared.part.Part.{Part}
use Rattle.verb_forms.specs.After.{with_part, with_parts}
use Rattle.verb_forms.specs.Suits.{is_typed, are_typed}

at_drop : (values : List (List ℕ × Part)) (i : ℕ) (value : List ℕ × Part) → i < length values → value ≡ get_or values i value
    → drop i values ≡ value ∷ drop (i + 1) values
at_drop values i value h is = drop_more values i value h ∙ ap (λ v. v ∷ drop (i + 1) values) (sym is)

pub parts_more : (schema : List Field) (values : List (List ℕ × Part)) (i : ℕ) (value : List ℕ × Part) → i < length values → value ≡ get_or values i value
    → with_parts schema (drop i values) ≡ with_parts (with_part schema value) (drop (i + 1) values)
parts_more schema values i value h is = ap (with_parts schema) (at_drop values i value h is)

pub typed_more : (schema : List Field) (values : List (List ℕ × Part)) (i : ℕ) (value : List ℕ × Part) → i < length values → value ≡ get_or values i value
    → are_typed schema (drop i values) ≡ (is_typed schema value.1 && are_typed (with_part schema value) (drop (i + 1) values))
typed_more schema values i value h is = ap (are_typed schema) (at_drop values i value h is)
