-- Columns by their names, and lists of places of columns.
use Rattle.std.proofs.Common.{◌≡◌, ℕ, zero, suc, ◌+◌, ◌<◌, ◌≤◌, Bool, true, false, not, ◌||◌, cond, nat_eq, Option, Some, None, List, [], ◌∷◌, ◌++◌, length, get_or, IsTrue, refl, sym, ap, ◌∙◌, inl, inr, arith}
use Rattle.std.specs.Prelude.{filter}
use Rattle.std.specs.List.{list_all, position_or_len, range_with_len}
use Rattle.std.specs.Str.{bytes_eq}
use Rattle.std.proofs.lemmas.Bool.{and_parts, and_from, or_cases, or_left, or_right, both_ways, lt-ltb, ltb-true, eqb-true, eq-eqb, cases_eq}
use Rattle.std.proofs.lemmas.List.Folds.{list_all-append, list_any-append}
use Rattle.std.proofs.lemmas.List.Quantifiers.{position-Some}
use Rattle.std.proofs.lemmas.Option.{slice_get-get_or}
use Rattle.std.proofs.lemmas.Slice.Eq.{bytes_eq-Decides}
use Rattle.row_table.specs.declared.field.Field.{Field}
use Rattle.row_table.specs.Tables.{has_name}
use Rattle.verb_forms.specs.Columns.{name_of, name_at}
use Rattle.verb_forms.specs.Suits.{is_place, are_places}
use Rattle.selections.specs.Columns.{all_places, is_among, with_column, with_columns}
use Rattle.term_types.specs.Terms.{place_of}
use Rattle.verb_types.specs.Steps.{place_in, places_of, or_all}

-- ---- tests of all elements, and of one

pub all-append : {A : Type 0} (p : A → Bool) (xs ys : List A) → list_all p xs ≡ true → list_all p ys ≡ true → list_all p (xs ++ ys) ≡ true
all-append p xs ys h k = list_all-append p xs ys ∙ and_from (list_all p xs) (list_all p ys) h k

pub all-filter : {A : Type 0} (p q : A → Bool) (xs : List A) → list_all p xs ≡ true → list_all p (filter q xs) ≡ true
all-filter p q [] h = refl
all-filter p q (x ∷ xs) h =
    let parts = and_parts (p x) (list_all p xs) h in
    let rest = all-filter p q xs parts.1 in
    elim (q x) as (λ b. list_all p (cond b (x ∷ filter q xs) (filter q xs)) ≡ true) [ true ↦ and_from (p x) (list_all p (filter q xs)) parts.0 rest | false ↦ rest ]

-- one that is among places that all pass
pub all_among : (p : ℕ → Bool) (places : List ℕ) (at : ℕ) → list_all p places ≡ true → is_among places at ≡ true → p at ≡ true
all_among p [] at h k = cc
all_among p (x ∷ places) at h k =
    let parts = and_parts (p x) (list_all p places) h in
    elim (or_cases (nat_eq at x) (is_among places at) k) [ inl e ↦ ap p (eqb-true at x e) ∙ parts.0 | inr r ↦ all_among p places at parts.1 r ]

pub among-append : (xs ys : List ℕ) (at : ℕ) → is_among (xs ++ ys) at ≡ (is_among xs at || is_among ys at)
among-append xs ys at = list_any-append (nat_eq at) xs ys

-- one that passes stays among what passes
pub among-filter : (p : ℕ → Bool) (places : List ℕ) (at : ℕ) → is_among places at ≡ true → p at ≡ true → is_among (filter p places) at ≡ true
among-filter p [] at h k = h
among-filter p (x ∷ places) at h k =
    let kept : (b : Bool) → p x ≡ b → is_among (cond b (x ∷ filter p places) (filter p places)) at ≡ true =
    λ b. elim b as (λ c. p x ≡ c → is_among (cond c (x ∷ filter p places) (filter p places)) at ≡ true) [
      | true ↦ λ e. elim (or_cases (nat_eq at x) (is_among places at) h) [
        | inl s ↦ or_left (nat_eq at x) (is_among (filter p places) at) s
        | inr r ↦ or_right (nat_eq at x) (is_among (filter p places) at) (among-filter p places at r k)
      ]
      | false ↦ λ e. elim (or_cases (nat_eq at x) (is_among places at) h) [
        | inl s ↦ absurd (both_ways (p x) e (sym (ap p (eqb-true at x s)) ∙ k))
        | inr r ↦ among-filter p places at r k
      ]
    ] in
    kept (p x) refl

-- ---- columns by their names

pub same_bytes : (a b : List ℕ) → bytes_eq a b ≡ true → a ≡ b
same_bytes a b = (bytes_eq-Decides a b).0

pub bytes_same : (a b : List ℕ) → a ≡ b → bytes_eq a b ≡ true
bytes_same a b = (bytes_eq-Decides a b).1

-- a name's place is that of a column of this name
pub placed : (schema : List Field) (name : List ℕ) (at : ℕ) → place_of name schema ≡ Some at → IsTrue (is_place schema at) × (name_at schema at ≡ name)
placed [] name at h = cc
placed (f ∷ fields) name at h =
    let found = position-Some (λ (g : Field). bytes_eq g.name name) (f ∷ fields) at f h in (
      lt-ltb at (length (f ∷ fields)) found.0,
      ap name_of (slice_get-get_or (f ∷ fields) at f found.0) ∙ same_bytes (get_or (f ∷ fields) at f).name name found.1,
    )

first_within : (fields : List Field) (name : List ℕ) → has_name name fields ≡ true → position_or_len (λ f. bytes_eq f.name name) fields < length fields
first_within [] name h = cc
first_within (f ∷ fields) name h =
    let step : (b : Bool) → (b || has_name name fields) ≡ true → cond (not b) (1 + position_or_len (λ (g : Field). bytes_eq g.name name) fields) 0 < length (f ∷ fields) =
    λ b. elim b as (λ c. (c || has_name name fields) ≡ true → cond (not c) (1 + position_or_len (λ (g : Field). bytes_eq g.name name) fields) 0 < length (f ∷ fields)) [
      | true ↦ λ k. omega arith
      | false ↦ λ k. let rest = first_within fields name k in omega arith
    ] in
    step (bytes_eq f.name name) h

-- a name of a column has a place
pub place_found : (fields : List Field) (name : List ℕ) → has_name name fields ≡ true → (at : ℕ) × (place_of name fields ≡ Some at)
place_found fields name h =
    let first : ℕ = position_or_len (λ (f : Field). bytes_eq f.name name) fields in
    (first, ap (λ b. cond b (Some first) None) (lt-ltb first (length fields) (first_within fields name h)))

-- ---- lists of places

pub place : (schema : List Field) (at : ℕ) → IsTrue (is_place schema at) → at < length schema
place schema at h = ltb-true at (length schema) h

range-places : (schema : List Field) (low count : ℕ) → low + count ≤ length schema → IsTrue (are_places schema (range_with_len low count))
range-places schema low zero h = refl
range-places schema low (suc count) h =
    and_from (is_place schema low) (are_places schema (range_with_len (low + 1) count)) (lt-ltb low (length schema) (omega arith)) (range-places schema (low + 1) count (omega arith))

pub all-places : (schema : List Field) → IsTrue (are_places schema (all_places schema))
all-places schema = range-places schema 0 (length schema) (omega arith)

among-range : (low count at : ℕ) → low ≤ at → at < low + count → is_among (range_with_len low count) at ≡ true
among-range low zero at h k = absurd (omega arith)
among-range low (suc count) at h k =
    elim (cases_eq at low) [
      | inl e ↦ or_left (nat_eq at low) (is_among (range_with_len (low + 1) count) at) (eq-eqb at low e)
      | inr n ↦ or_right (nat_eq at low) (is_among (range_with_len (low + 1) count) at) (among-range (low + 1) count at (omega arith) (omega arith))
    ]

pub among-all : (schema : List Field) (at : ℕ) → at < length schema → is_among (all_places schema) at ≡ true
among-all schema at h = among-range 0 (length schema) at (omega arith) (omega arith)

pub with_column-places : (schema : List Field) (had : List ℕ) (at : ℕ) → IsTrue (are_places schema had) → IsTrue (is_place schema at) → IsTrue (are_places schema (with_column had at))
with_column-places schema had at h k =
    elim (is_among had at) as (λ b. IsTrue (are_places schema (cond b had (had ++ at ∷ [])))) [
      | true ↦ h
      | false ↦ all-append (is_place schema) had (at ∷ []) h (and_from (is_place schema at) true k refl)
    ]

pub with_columns-places : (schema : List Field) (had more : List ℕ) → IsTrue (are_places schema had) → IsTrue (are_places schema more) → IsTrue (are_places schema (with_columns had more))
with_columns-places schema had [] h k = h
with_columns-places schema had (at ∷ more) h k =
    let parts = and_parts (is_place schema at) (are_places schema more) k in
    with_columns-places schema (with_column had at) more (with_column-places schema had at h parts.0) parts.1

place_in-places : (schema : List Field) (found : Option ℕ) → ((at : ℕ) → found ≡ Some at → IsTrue (is_place schema at)) → IsTrue (are_places schema (place_in found))
place_in-places schema None h = refl
place_in-places schema (Some at) h = and_from (is_place schema at) true (h at refl) refl

pub places_of-places : (schema : List Field) (names : List (List ℕ)) → IsTrue (are_places schema (places_of schema names))
places_of-places schema [] = refl
places_of-places schema (name ∷ names) =
    all-append (is_place schema) (place_in (place_of name schema)) (places_of schema names)
    (place_in-places schema (place_of name schema) (λ at e. (placed schema name at e).0)) (places_of-places schema names)

pub or_all-places : (schema : List Field) (columns : List ℕ) → IsTrue (are_places schema columns) → IsTrue (are_places schema (or_all schema columns))
or_all-places schema [] h = all-places schema
or_all-places schema (c ∷ cs) h = h
