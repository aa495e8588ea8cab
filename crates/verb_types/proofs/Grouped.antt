-- Groups are columns: those of a table have places, places apart are groups, and groups stay where their columns stay.
use Rattle.std.proofs.Common.{◌≡◌, ℕ, zero, suc, ◌<◌, Bool, true, false, not, ◌&&◌, ◌||◌, cond, nat_eq, Option, Some, None, List, [], ◌∷◌, ◌++◌, length, IsTrue, refl, sym, ap, ◌∙◌, inl, inr, arith}
use Rattle.std.specs.Str.{bytes_eq}
use Rattle.std.specs.Cmp.Lexicographic.{pointwise}
use Rattle.std.proofs.lemmas.Bool.{and_parts, and_from, or_cases, or_left, or_right, or_parts, or_from, both_ways, not-true, not_from_false, false_from_ne_true, eqb-true, eqb-false, eq-eqb, ne_eqb}
use Rattle.row_table.specs.declared.field.Field.{Field}
use Rattle.row_table.specs.Tables.{has_name, names_differ, among_texts, are_groups}
use Rattle.verb_forms.specs.Columns.{name_at, names_at}
use Rattle.verb_forms.specs.Shapes.{ShapeValue, IsShape}
use Rattle.verb_forms.specs.Suits.{is_empty, is_place, are_places, is_grouping}
use Rattle.selections.specs.Columns.{is_among, with_column, with_columns}
use Rattle.term_types.specs.Terms.{place_of}
use Rattle.verb_types.specs.Steps.{place_in, places_of}
use Rattle.verb_types.proofs.Places.{same_bytes, bytes_same, placed, place_found, place, among-append, places_of-places}

-- ---- the places of groups

pub names_at-places_of : (schema : List Field) (groups : List (List ℕ)) → IsTrue (are_groups schema groups) → names_at schema (places_of schema groups) ≡ groups
names_at-places_of schema [] h = refl
names_at-places_of schema (g ∷ groups) h =
    let parts = and_parts (has_name g schema) (not (among_texts g groups) && are_groups schema groups) h in
    let rest = and_parts (not (among_texts g groups)) (are_groups schema groups) parts.1 in
    let found = place_found schema g parts.0 in
    ap (λ r. names_at schema (place_in r ++ places_of schema groups)) found.1
    ∙ ap (λ n. n ∷ names_at schema (places_of schema groups)) (placed schema g found.0 found.1).1
    ∙ ap (λ ns. g ∷ ns) (names_at-places_of schema groups rest.1)

same_names : (names : List (List ℕ)) → pointwise bytes_eq names names ≡ true
same_names [] = refl
same_names (name ∷ names) = and_from (bytes_eq name name) (pointwise bytes_eq names names) (bytes_same name name refl) (same_names names)

-- the groups of a table group a verb
pub groups_grouping : (x : ShapeValue) → IsShape x → IsTrue (is_grouping x (places_of x.schema x.groups))
groups_grouping x is =
    let same : pointwise bytes_eq (names_at x.schema (places_of x.schema x.groups)) x.groups ≡ true =
    ap (λ names. pointwise bytes_eq names x.groups) (names_at-places_of x.schema x.groups is.grouped) ∙ same_names x.groups in
    and_from (are_places x.schema (places_of x.schema x.groups)) (is_empty x.groups || pointwise bytes_eq (names_at x.schema (places_of x.schema x.groups)) x.groups)
    (places_of-places x.schema x.groups) (or_right (is_empty x.groups) (pointwise bytes_eq (names_at x.schema (places_of x.schema x.groups)) x.groups) same)

-- ---- places apart

-- whether no place stands twice
abbrev pub are_apart : List ℕ → Bool
are_apart [] = true
are_apart (p ∷ places) = not (is_among places p) && are_apart places

named_has : (schema : List Field) (at : ℕ) → at < length schema → has_name (name_at schema at) schema ≡ true
named_has [] at h = absurd (omega arith)
named_has (f ∷ fields) zero h = or_left (bytes_eq f.name f.name) (has_name f.name fields) (bytes_same f.name f.name refl)
named_has (f ∷ fields) (suc at) h =
    or_right (bytes_eq f.name (name_at fields at)) (has_name (name_at fields at) fields) (named_has fields at (omega arith))

-- the first column's name is no other's
another : (f : Field) (fields : List Field) (at : ℕ) → names_differ (f ∷ fields) ≡ true → at < length fields → f.name ≡ name_at fields at → ⊥
another f fields at differ h e =
    let parts = and_parts (not (has_name f.name fields)) (names_differ fields) differ in
    both_ways (has_name f.name fields) (not-true (has_name f.name fields) parts.0) (ap (λ n. has_name n fields) e ∙ named_has fields at h)

-- columns of one name are one
same_place : (schema : List Field) (a b : ℕ) → names_differ schema ≡ true → a < length schema → b < length schema → name_at schema a ≡ name_at schema b → a ≡ b
same_place [] a b differ h k e = absurd (omega arith)
same_place (f ∷ fields) zero zero differ h k e = refl
same_place (f ∷ fields) zero (suc b) differ h k e = absurd (another f fields b differ (omega arith) e)
same_place (f ∷ fields) (suc a) zero differ h k e = absurd (another f fields a differ (omega arith) (sym e))
same_place (f ∷ fields) (suc a) (suc b) differ h k e =
    ap suc (same_place fields a b (and_parts (not (has_name f.name fields)) (names_differ fields) differ).1 (omega arith) (omega arith) e)

-- a column whose name is among those of places is at one of them
among_named : (schema : List Field) (at : ℕ) (places : List ℕ) → names_differ schema ≡ true → at < length schema → are_places schema places ≡ true
    → among_texts (name_at schema at) (names_at schema places) ≡ true → is_among places at ≡ true
among_named schema at [] differ h all k = k
among_named schema at (p ∷ places) differ h all k =
    let parts = and_parts (is_place schema p) (are_places schema places) all in
    elim (or_cases (bytes_eq (name_at schema p) (name_at schema at)) (among_texts (name_at schema at) (names_at schema places)) k) [
      | inl e ↦ or_left (nat_eq at p) (is_among places at) (eq-eqb at p (sym (same_place schema p at differ (place schema p parts.0) h (same_bytes (name_at schema p) (name_at schema at) e))))
      | inr r ↦ or_right (nat_eq at p) (is_among places at) (among_named schema at places differ h parts.1 r)
    ]

-- the names of places apart are groups
pub apart_groups : (schema : List Field) (places : List ℕ) → names_differ schema ≡ true → are_places schema places ≡ true → are_apart places ≡ true → are_groups schema (names_at schema places) ≡ true
apart_groups schema [] differ all apart = refl
apart_groups schema (p ∷ places) differ all apart =
    let parts = and_parts (is_place schema p) (are_places schema places) all in
    let others = and_parts (not (is_among places p)) (are_apart places) apart in
    let within = place schema p parts.0 in
    let among : Bool = among_texts (name_at schema p) (names_at schema places) in
    and_from (has_name (name_at schema p) schema) (not among && are_groups schema (names_at schema places)) (named_has schema p within)
    (and_from (not among) (are_groups schema (names_at schema places))
    (not_from_false among (false_from_ne_true among (λ r. both_ways (is_among places p) (not-true (is_among places p) others.0) (among_named schema p places differ within parts.1 r))))
    (apart_groups schema places differ parts.1 others.1))

-- ---- the places of groups are apart

-- a place of groups has the name of one
among_first : (schema : List Field) (at : ℕ) (g : List ℕ) (groups : List (List ℕ)) (found : Option ℕ) (rest : List ℕ) → ((p : ℕ) → found ≡ Some p → name_at schema p ≡ g)
    → (is_among rest at ≡ true → among_texts (name_at schema at) groups ≡ true) → is_among (place_in found ++ rest) at ≡ true → among_texts (name_at schema at) (g ∷ groups) ≡ true
among_first schema at g groups None rest named others h = or_right (bytes_eq g (name_at schema at)) (among_texts (name_at schema at) groups) (others h)
among_first schema at g groups (Some p) rest named others h =
    elim (or_cases (nat_eq at p) (is_among rest at) h) [
      | inl e ↦ or_left (bytes_eq g (name_at schema at)) (among_texts (name_at schema at) groups) (bytes_same g (name_at schema at) (sym (named p refl) ∙ ap (name_at schema) (sym (eqb-true at p e))))
      | inr r ↦ or_right (bytes_eq g (name_at schema at)) (among_texts (name_at schema at) groups) (others r)
    ]

among_places_of : (schema : List Field) (at : ℕ) (groups : List (List ℕ)) → is_among (places_of schema groups) at ≡ true → among_texts (name_at schema at) groups ≡ true
among_places_of schema at [] h = h
among_places_of schema at (g ∷ groups) h =
    among_first schema at g groups (place_of g schema) (places_of schema groups) (λ p e. (placed schema g p e).1) (among_places_of schema at groups) h

first_apart : (schema : List Field) (g : List ℕ) (groups : List (List ℕ)) (found : Option ℕ) → ((p : ℕ) → found ≡ Some p → name_at schema p ≡ g)
    → not (among_texts g groups) ≡ true → are_apart (places_of schema groups) ≡ true → are_apart (place_in found ++ places_of schema groups) ≡ true
first_apart schema g groups None named h apart = apart
first_apart schema g groups (Some p) named h apart =
    let among : Bool = is_among (places_of schema groups) p in
    and_from (not among) (are_apart (places_of schema groups))
    (not_from_false among (false_from_ne_true among (λ r. both_ways (among_texts g groups) (not-true (among_texts g groups) h) (ap (λ n. among_texts n groups) (sym (named p refl)) ∙ among_places_of schema p groups r))))
    apart

pub places_of-apart : (schema : List Field) (groups : List (List ℕ)) → are_groups schema groups ≡ true → are_apart (places_of schema groups) ≡ true
places_of-apart schema [] h = refl
places_of-apart schema (g ∷ groups) h =
    let parts = and_parts (has_name g schema) (not (among_texts g groups) && are_groups schema groups) h in
    let rest = and_parts (not (among_texts g groups)) (are_groups schema groups) parts.1 in
    first_apart schema g groups (place_of g schema) (λ p e. (placed schema g p e).1) rest.0 (places_of-apart schema groups rest.1)

apart-last : (places : List ℕ) (at : ℕ) → are_apart places ≡ true → is_among places at ≡ false → are_apart (places ++ at ∷ []) ≡ true
apart-last [] at apart h = refl
apart-last (p ∷ places) at apart h =
    let others = and_parts (not (is_among places p)) (are_apart places) apart in
    let unequal = or_parts (nat_eq at p) (is_among places at) h in
    let none : is_among (places ++ at ∷ []) p ≡ false =
    among-append places (at ∷ []) p ∙ or_from (is_among places p) (is_among (at ∷ []) p) (not-true (is_among places p) others.0)
    (or_from (nat_eq p at) false (ne_eqb p at (λ e. eqb-false at p unequal.0 (sym e))) refl) in
    and_from (not (is_among (places ++ at ∷ []) p)) (are_apart (places ++ at ∷ [])) (not_from_false (is_among (places ++ at ∷ []) p) none) (apart-last places at others.1 unequal.1)

with_column-apart : (had : List ℕ) (at : ℕ) → are_apart had ≡ true → are_apart (with_column had at) ≡ true
with_column-apart had at h =
    let step : (b : Bool) → is_among had at ≡ b → are_apart (cond b had (had ++ at ∷ [])) ≡ true =
    λ b. elim b as (λ c. is_among had at ≡ c → are_apart (cond c had (had ++ at ∷ [])) ≡ true) [ true ↦ λ e. h | false ↦ λ e. apart-last had at h e ] in
    step (is_among had at) refl

pub with_columns-apart : (had more : List ℕ) → are_apart had ≡ true → are_apart (with_columns had more) ≡ true
with_columns-apart had [] h = h
with_columns-apart had (at ∷ more) h = with_columns-apart (with_column had at) more (with_column-apart had at h)

-- ---- groups stay

pub groups_stay : (fields others : List Field) (groups : List (List ℕ)) → ((name : List ℕ) → has_name name fields ≡ true → has_name name others ≡ true) → are_groups fields groups ≡ true → are_groups others groups ≡ true
groups_stay fields others [] stay h = refl
groups_stay fields others (g ∷ groups) stay h =
    let parts = and_parts (has_name g fields) (not (among_texts g groups) && are_groups fields groups) h in
    let rest = and_parts (not (among_texts g groups)) (are_groups fields groups) parts.1 in
    and_from (has_name g others) (not (among_texts g groups) && are_groups others groups) (stay g parts.0)
    (and_from (not (among_texts g groups)) (are_groups others groups) rest.0 (groups_stay fields others groups stay rest.1))
