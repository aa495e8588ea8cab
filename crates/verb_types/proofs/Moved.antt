-- All columns are there after a move, and old columns after a new one.
use Rattle.std.proofs.Common.{◌≡◌, ℕ, zero, suc, Bool, true, false, not, ◌||◌, cond, nat_eq, Option, Some, None, List, [], ◌∷◌, ◌++◌, map, set, refl, sym, ap, ◌∙◌, inl, inr}
use Rattle.std.specs.Prelude.{filter}
use Rattle.std.specs.List.{flat_map}
use Rattle.std.specs.Str.{bytes_eq}
use Rattle.std.proofs.lemmas.Bool.{and_from, and_parts, or_cases, or_left, or_right, not_from_false, eqb-true, eq-eqb, cases_Bool}
use Rattle.scalar_value.specs.declared.value.ColType.{ColType}
use Rattle.row_table.specs.declared.field.Field.{Field}
use Rattle.row_table.specs.Tables.{has_name}
use Rattle.verb_forms.specs.Columns.{name_at, put, with_column}
use Rattle.verb_forms.specs.Columns.{place_of as column_place}
use Rattle.verb_forms.specs.Shapes.{ShapeValue}
use Rattle.verb_forms.specs.Suits.{is_place, are_places}
use Rattle.selections.specs.Columns.{is_among, all_places, without}
use Rattle.verb_types.specs.Steps.{places_of, own_name, has_column, with_groups, beside_anchor, moved_to, anchor_moves}
use Rattle.verb_types.proofs.Places.{placed, place, all-append, among-append, among-filter, among-all}
use Rattle.verb_types.proofs.Choices.{own-has, append-has}
use Rattle.std.proofs.lemmas.List.Folds.{list_any-append}

-- ---- select

-- every grouping column is among the columns of `select`
pub grouped-has : (x : ShapeValue) (chosen : List (ℕ × List ℕ)) (at : ℕ) → is_among (places_of x.schema x.groups) at ≡ true → has_column (with_groups x chosen) at ≡ true
grouped-has x chosen at h =
    let missing : List ℕ = filter (λ p. not (has_column chosen p)) (places_of x.schema x.groups) in
    let front : List (ℕ × List ℕ) = map (own_name x.schema) missing in
    elim (cases_Bool (has_column chosen at)) [
      | inl e ↦ list_any-append (λ (c : ℕ × List ℕ). nat_eq c.0 at) front chosen ∙ or_right (has_column front at) (has_column chosen at) e
      | inr n ↦ append-has front chosen at (own-has x.schema missing at (among-filter (λ p. not (has_column chosen p)) (places_of x.schema x.groups) at h (not_from_false (has_column chosen at) n)))
    ]

-- ---- relocate

beside-places : (schema : List Field) (moved : List ℕ) (after : Bool) (anchor at : ℕ) → are_places schema moved ≡ true → is_place schema at ≡ true → are_places schema (beside_anchor moved after anchor at) ≡ true
beside-places schema moved after anchor at h k =
    let here : are_places schema (at ∷ []) ≡ true = and_from (is_place schema at) true k refl in
    let beside : are_places schema (cond after (at ∷ moved) (moved ++ at ∷ [])) ≡ true =
    elim after as (λ b. are_places schema (cond b (at ∷ moved) (moved ++ at ∷ [])) ≡ true) [
      | true ↦ and_from (is_place schema at) (are_places schema moved) k h
      | false ↦ all-append (is_place schema) moved (at ∷ []) h here
    ] in
    elim (nat_eq at anchor) as (λ b. are_places schema (cond b (cond after (at ∷ moved) (moved ++ at ∷ [])) (at ∷ [])) ≡ true) [ true ↦ beside | false ↦ here ]

beside_all-places : (schema : List Field) (moved : List ℕ) (after : Bool) (anchor : ℕ) (rest : List ℕ) → are_places schema moved ≡ true → are_places schema rest ≡ true → are_places schema (flat_map (beside_anchor moved after anchor) rest) ≡ true
beside_all-places schema moved after anchor [] h k = refl
beside_all-places schema moved after anchor (at ∷ rest) h k =
    let parts = and_parts (is_place schema at) (are_places schema rest) k in
    all-append (is_place schema) (beside_anchor moved after anchor at) (flat_map (beside_anchor moved after anchor) rest) (beside-places schema moved after anchor at h parts.0)
    (beside_all-places schema moved after anchor rest h parts.1)

pub moved-places : (schema : List Field) (moved rest : List ℕ) (anchor : Option (Bool × ℕ)) → are_places schema moved ≡ true → are_places schema rest ≡ true → are_places schema (moved_to moved rest anchor) ≡ true
moved-places schema moved rest None h k = all-append (is_place schema) moved rest h k
moved-places schema moved rest (Some anchor) h k = beside_all-places schema moved anchor.0 anchor.1 rest h k

-- the column itself stands beside the anchor, and at the anchor all that move
beside-itself : (moved : List ℕ) (after : Bool) (anchor at : ℕ) → is_among (beside_anchor moved after anchor at) at ≡ true
beside-itself moved after anchor at =
    let same : nat_eq at at ≡ true = eq-eqb at at refl in
    let here : is_among (at ∷ []) at ≡ true = or_left (nat_eq at at) false same in
    let beside : is_among (cond after (at ∷ moved) (moved ++ at ∷ [])) at ≡ true =
    elim after as (λ b. is_among (cond b (at ∷ moved) (moved ++ at ∷ [])) at ≡ true) [
      | true ↦ or_left (nat_eq at at) (is_among moved at) same
      | false ↦ among-append moved (at ∷ []) at ∙ or_right (is_among moved at) (is_among (at ∷ []) at) here
    ] in
    elim (nat_eq at anchor) as (λ b. is_among (cond b (cond after (at ∷ moved) (moved ++ at ∷ [])) (at ∷ [])) at ≡ true) [ true ↦ beside | false ↦ here ]

beside-moved : (moved : List ℕ) (after : Bool) (anchor at : ℕ) → is_among moved at ≡ true → is_among (beside_anchor moved after anchor anchor) at ≡ true
beside-moved moved after anchor at h =
    let beside : is_among (cond after (anchor ∷ moved) (moved ++ anchor ∷ [])) at ≡ true =
    elim after as (λ b. is_among (cond b (anchor ∷ moved) (moved ++ anchor ∷ [])) at ≡ true) [
      | true ↦ or_right (nat_eq at anchor) (is_among moved at) h
      | false ↦ among-append moved (anchor ∷ []) at ∙ or_left (is_among moved at) (is_among (anchor ∷ []) at) h
    ] in
    ap (λ b. is_among (cond b (cond after (anchor ∷ moved) (moved ++ anchor ∷ [])) (anchor ∷ [])) at) (eq-eqb anchor anchor refl) ∙ beside

-- what stands beside one of the columns that stay stands in the whole
among_flat : (f : ℕ → List ℕ) (rest : List ℕ) (at other : ℕ) → is_among rest other ≡ true → is_among (f other) at ≡ true → is_among (flat_map f rest) at ≡ true
among_flat f [] at other h k = cc
among_flat f (p ∷ rest) at other h k =
    among-append (f p) (flat_map f rest) at
    ∙ elim (or_cases (nat_eq other p) (is_among rest other) h) [
      | inl e ↦ or_left (is_among (f p) at) (is_among (flat_map f rest) at) (ap (λ n. is_among (f n) at) (sym (eqb-true other p e)) ∙ k)
      | inr r ↦ or_right (is_among (f p) at) (is_among (flat_map f rest) at) (among_flat f rest at other r k)
    ]

-- the columns that do not move
stay : (schema : List Field) (moved : List ℕ) (at : ℕ) → is_place schema at ≡ true → is_among moved at ≡ false → is_among (without (all_places schema) moved) at ≡ true
stay schema moved at h k = among-filter (λ p. not (is_among moved p)) (all_places schema) at (among-all schema at (place schema at h)) (not_from_false (is_among moved at) k)

-- the anchor is a column
abbrev pub IsAnchor : List Field → Option (Bool × ℕ) → Type 0
IsAnchor schema None = Unit {0}
IsAnchor schema (Some anchor) = is_place schema anchor.1 ≡ true

-- every column is there after the move
pub moved-has : (schema : List Field) (moved : List ℕ) (anchor : Option (Bool × ℕ)) (at : ℕ) → IsAnchor schema anchor → anchor_moves moved anchor ≡ false → is_place schema at ≡ true
    → is_among (moved_to moved (without (all_places schema) moved) anchor) at ≡ true
moved-has schema moved None at is h k =
    among-append moved (without (all_places schema) moved) at
    ∙ elim (cases_Bool (is_among moved at)) [
      | inl e ↦ or_left (is_among moved at) (is_among (without (all_places schema) moved) at) e
      | inr n ↦ or_right (is_among moved at) (is_among (without (all_places schema) moved) at) (stay schema moved at k n)
    ]
moved-has schema moved (Some anchor) at is h k =
    let rest : List ℕ = without (all_places schema) moved in
    elim (cases_Bool (is_among moved at)) [
      | inl e ↦ among_flat (beside_anchor moved anchor.0 anchor.1) rest at anchor.1 (stay schema moved anchor.1 is h) (beside-moved moved anchor.0 anchor.1 at e)
      | inr n ↦ among_flat (beside_anchor moved anchor.0 anchor.1) rest at at (stay schema moved at k n) (beside-itself moved anchor.0 anchor.1 at)
    ]

-- ---- mutate

last-has : (fields : List Field) (f : Field) (name : List ℕ) → has_name name fields ≡ true → has_name name (fields ++ f ∷ []) ≡ true
last-has [] f name h = cc
last-has (g ∷ fields) f name h =
    elim (or_cases (bytes_eq g.name name) (has_name name fields) h) [
      | inl e ↦ or_left (bytes_eq g.name name) (has_name name (fields ++ f ∷ [])) e
      | inr r ↦ or_right (bytes_eq g.name name) (has_name name (fields ++ f ∷ [])) (last-has fields f name r)
    ]

set-has : (fields : List Field) (at : ℕ) (f : Field) (name : List ℕ) → name_at fields at ≡ f.name → has_name name (set fields at f) ≡ has_name name fields
set-has [] at f name e = refl
set-has (g ∷ fields) zero f name e = ap (λ n. bytes_eq n name || has_name name fields) (sym e)
set-has (g ∷ fields) (suc at) f name e = ap (λ b. bytes_eq g.name name || b) (set-has fields at f name e)

put-has : (fields : List Field) (found : Option ℕ) (f : Field) (name : List ℕ) → ((at : ℕ) → found ≡ Some at → name_at fields at ≡ f.name) → has_name name fields ≡ true → has_name name (put found f fields) ≡ true
put-has fields None f name named h = last-has fields f name h
put-has fields (Some at) f name named h = set-has fields at f name (named at refl) ∙ h

-- the old columns are there behind a new one
pub with_column-has : (fields : List Field) (new : List ℕ) (kind : ColType) (name : List ℕ) → has_name name fields ≡ true → has_name name (with_column new kind fields) ≡ true
with_column-has fields new kind name h = put-has fields (column_place new fields) (record { name = new; kind = kind }) name (λ at e. (placed fields new at e).1) h
