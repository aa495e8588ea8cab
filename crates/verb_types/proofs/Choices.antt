-- Columns that are chosen under names: groups that are among them stay groups under their new names.
use Rattle.std.proofs.Common.{◌≡◌, ℕ, Bool, true, false, not, ◌&&◌, ◌||◌, cond, nat_eq, List, [], ◌∷◌, ◌++◌, map, refl, sym, ap, ◌∙◌, inl, inr}
use Rattle.std.specs.Prelude.{fold}
use Rattle.std.specs.List.{list_any, list_all}
use Rattle.std.specs.Str.{bytes_eq}
use Rattle.std.proofs.lemmas.Bool.{and_parts, and_from, or_cases, or_left, or_right, both_ways, not-true, not_from_false, false_from_ne_true, eqb-true, eq-eqb}
use Rattle.std.proofs.lemmas.List.Folds.{list_any-append}
use Rattle.row_table.specs.declared.field.Field.{Field}
use Rattle.row_table.specs.Tables.{has_name, names_differ, among_texts, are_groups}
use Rattle.group_rules.specs.Groups.{new_name, selected_groups}
use Rattle.verb_forms.specs.Columns.{name_at, chosen_columns, renamings}
use Rattle.verb_forms.specs.Suits.{is_place, are_places, are_chosen}
use Rattle.selections.specs.Columns.{is_among, all_places}
use Rattle.term_types.specs.Terms.{place_of}
use Rattle.verb_types.specs.Steps.{place_in, places_of, own_name, is_column_at, has_column, with_own, without_columns, taking, all_own}
use Rattle.verb_types.proofs.Places.{same_bytes, bytes_same, placed, place_found, place, all-append, all-filter, among-append, all_among, all-places, among-all, places_of-places}

-- ---- chosen columns, and those of a name

-- whether a column of this name is chosen
abbrev pub stands : List Field → List (ℕ × List ℕ) → List ℕ → Bool
stands schema chosen name = list_any (λ c. bytes_eq (name_at schema c.0) name) chosen

new_has : (schema : List Field) (chosen : List (ℕ × List ℕ)) (g : List ℕ) → stands schema chosen g ≡ true → has_name (new_name (renamings schema chosen) g) (chosen_columns schema chosen) ≡ true
new_has schema [] g h = cc
new_has schema (c ∷ chosen) g h =
    let later : List ℕ = new_name (renamings schema chosen) g in
    let step : (b : Bool) → (b || stands schema chosen g) ≡ true → has_name (cond b c.1 later) (chosen_columns schema (c ∷ chosen)) ≡ true =
    λ b. elim b as (λ d. (d || stands schema chosen g) ≡ true → has_name (cond d c.1 later) (chosen_columns schema (c ∷ chosen)) ≡ true) [
      | true ↦ λ k. or_left (bytes_eq c.1 c.1) (has_name c.1 (chosen_columns schema chosen)) (bytes_same c.1 c.1 refl)
      | false ↦ λ k. or_right (bytes_eq c.1 later) (has_name later (chosen_columns schema chosen)) (new_has schema chosen g k)
    ] in
    step (bytes_eq (name_at schema c.0) g) h

-- the name of the first column that is chosen is not the new name of a later one
not_later : (schema : List Field) (c : ℕ × List ℕ) (chosen : List (ℕ × List ℕ)) (g : List ℕ) → names_differ (chosen_columns schema (c ∷ chosen)) ≡ true → stands schema chosen g ≡ true
    → c.1 ≡ new_name (renamings schema chosen) g → ⊥
not_later schema c chosen g differ h e =
    let parts = and_parts (not (has_name c.1 (chosen_columns schema chosen))) (names_differ (chosen_columns schema chosen)) differ in
    both_ways (has_name c.1 (chosen_columns schema chosen)) (not-true (has_name c.1 (chosen_columns schema chosen)) parts.0)
    (ap (λ n. has_name n (chosen_columns schema chosen)) e ∙ new_has schema chosen g h)

-- two columns of one new name have one old name
new_apart : (schema : List Field) (chosen : List (ℕ × List ℕ)) (g k : List ℕ) → names_differ (chosen_columns schema chosen) ≡ true → stands schema chosen g ≡ true → stands schema chosen k ≡ true
    → new_name (renamings schema chosen) g ≡ new_name (renamings schema chosen) k → g ≡ k
new_apart schema [] g k differ h l e = cc
new_apart schema (c ∷ chosen) g k differ h l e =
    step (bytes_eq (name_at schema c.0) g) (bytes_eq (name_at schema c.0) k) refl refl
    (new_apart schema chosen g k (and_parts (not (has_name c.1 (chosen_columns schema chosen))) (names_differ (chosen_columns schema chosen)) differ).1) h l e
  where
    step : (a b : Bool) → bytes_eq (name_at schema c.0) g ≡ a → bytes_eq (name_at schema c.0) k ≡ b
        → (stands schema chosen g ≡ true → stands schema chosen k ≡ true → new_name (renamings schema chosen) g ≡ new_name (renamings schema chosen) k → g ≡ k)
        → (a || stands schema chosen g) ≡ true → (b || stands schema chosen k) ≡ true
        → cond a c.1 (new_name (renamings schema chosen) g) ≡ cond b c.1 (new_name (renamings schema chosen) k) → g ≡ k
    step true true p q rest u v w = sym (same_bytes (name_at schema c.0) g p) ∙ same_bytes (name_at schema c.0) k q
    step true false p q rest u v w = absurd (not_later schema c chosen k differ v w)
    step false true p q rest u v w = absurd (not_later schema c chosen g differ u (sym w))
    step false false p q rest u v w = rest u v w

among_new : (schema : List Field) (chosen : List (ℕ × List ℕ)) (g : List ℕ) (groups : List (List ℕ)) → names_differ (chosen_columns schema chosen) ≡ true → stands schema chosen g ≡ true
    → list_all (stands schema chosen) groups ≡ true → among_texts (new_name (renamings schema chosen) g) (selected_groups (renamings schema chosen) groups) ≡ true → among_texts g groups ≡ true
among_new schema chosen g [] differ h all k = k
among_new schema chosen g (other ∷ groups) differ h all k =
    let parts = and_parts (stands schema chosen other) (list_all (stands schema chosen) groups) all in
    let new : List ℕ → List ℕ = new_name (renamings schema chosen) in
    elim (or_cases (bytes_eq (new other) (new g)) (among_texts (new g) (selected_groups (renamings schema chosen) groups)) k) [
      | inl e ↦ or_left (bytes_eq other g) (among_texts g groups) (bytes_same other g (new_apart schema chosen other g differ parts.0 h (same_bytes (new other) (new g) e)))
      | inr r ↦ or_right (bytes_eq other g) (among_texts g groups) (among_new schema chosen g groups differ h parts.1 r)
    ]

-- groups whose columns are all chosen are groups of the chosen columns, under their new names
new_groups : (schema : List Field) (chosen : List (ℕ × List ℕ)) (groups : List (List ℕ)) → names_differ (chosen_columns schema chosen) ≡ true → list_all (stands schema chosen) groups ≡ true
    → are_groups schema groups ≡ true → are_groups (chosen_columns schema chosen) (selected_groups (renamings schema chosen) groups) ≡ true
new_groups schema chosen [] differ all h = refl
new_groups schema chosen (g ∷ groups) differ all h =
    let parts = and_parts (stands schema chosen g) (list_all (stands schema chosen) groups) all in
    let grouped = and_parts (has_name g schema) (not (among_texts g groups) && are_groups schema groups) h in
    let rest = and_parts (not (among_texts g groups)) (are_groups schema groups) grouped.1 in
    let new : List ℕ = new_name (renamings schema chosen) g in
    let others : List (List ℕ) = selected_groups (renamings schema chosen) groups in
    and_from (has_name new (chosen_columns schema chosen)) (not (among_texts new others) && are_groups (chosen_columns schema chosen) others) (new_has schema chosen g parts.0)
    (and_from (not (among_texts new others)) (are_groups (chosen_columns schema chosen) others)
    (not_from_false (among_texts new others) (false_from_ne_true (among_texts new others) (λ r. both_ways (among_texts g groups) (not-true (among_texts g groups) rest.0) (among_new schema chosen g groups differ parts.0 parts.1 r))))
    (new_groups schema chosen groups differ parts.1 rest.1))

-- ---- groups that are chosen

column_stands : (schema : List Field) (chosen : List (ℕ × List ℕ)) (at : ℕ) (name : List ℕ) → name_at schema at ≡ name → has_column chosen at ≡ true → stands schema chosen name ≡ true
column_stands schema [] at name e h = h
column_stands schema (c ∷ chosen) at name e h =
    elim (or_cases (nat_eq c.0 at) (has_column chosen at) h) [
      | inl s ↦ or_left (bytes_eq (name_at schema c.0) name) (stands schema chosen name) (bytes_same (name_at schema c.0) name (ap (name_at schema) (eqb-true c.0 at s) ∙ e))
      | inr r ↦ or_right (bytes_eq (name_at schema c.0) name) (stands schema chosen name) (column_stands schema chosen at name e r)
    ]

all_stand : (schema : List Field) (chosen : List (ℕ × List ℕ)) (groups : List (List ℕ)) → are_groups schema groups ≡ true
    → ((at : ℕ) → is_among (places_of schema groups) at ≡ true → has_column chosen at ≡ true) → list_all (stands schema chosen) groups ≡ true
all_stand schema chosen [] h each = refl
all_stand schema chosen (g ∷ groups) h each =
    let parts = and_parts (has_name g schema) (not (among_texts g groups) && are_groups schema groups) h in
    let found = place_found schema g parts.0 in
    let here : is_among (place_in (place_of g schema) ++ places_of schema groups) found.0 ≡ true =
    ap (λ r. is_among (place_in r ++ places_of schema groups) found.0) found.1 ∙ or_left (nat_eq found.0 found.0) (is_among (places_of schema groups) found.0) (eq-eqb found.0 found.0 refl) in
    and_from (stands schema chosen g) (list_all (stands schema chosen) groups) (column_stands schema chosen found.0 g (placed schema g found.0 found.1).1 (each found.0 here))
    (all_stand schema chosen groups (and_parts (not (among_texts g groups)) (are_groups schema groups) parts.1).1
    (λ at r. each at (among-append (place_in (place_of g schema)) (places_of schema groups) at ∙ or_right (is_among (place_in (place_of g schema)) at) (is_among (places_of schema groups) at) r)))

-- a choice of the groups' columns and of others keeps the groups
pub chosen_groups : (schema : List Field) (chosen : List (ℕ × List ℕ)) (groups : List (List ℕ)) → are_groups schema groups ≡ true
    → ((at : ℕ) → is_among (places_of schema groups) at ≡ true → has_column chosen at ≡ true) → names_differ (chosen_columns schema chosen) ≡ true
    → are_groups (chosen_columns schema chosen) (selected_groups (renamings schema chosen) groups) ≡ true
chosen_groups schema chosen groups h each differ = new_groups schema chosen groups differ (all_stand schema chosen groups h each) h

-- and so does a choice of all columns
pub whole_groups : (schema : List Field) (chosen : List (ℕ × List ℕ)) (groups : List (List ℕ)) → are_groups schema groups ≡ true
    → ((at : ℕ) → is_place schema at ≡ true → has_column chosen at ≡ true) → names_differ (chosen_columns schema chosen) ≡ true
    → are_groups (chosen_columns schema chosen) (selected_groups (renamings schema chosen) groups) ≡ true
whole_groups schema chosen groups h each = chosen_groups schema chosen groups h (λ at r. each at (all_among (is_place schema) (places_of schema groups) at (places_of-places schema groups) r))

-- ---- columns under their own names

pub own-chosen : (schema : List Field) (places : List ℕ) → are_places schema places ≡ true → are_chosen schema (map (own_name schema) places) ≡ true
own-chosen schema [] h = refl
own-chosen schema (p ∷ places) h =
    let parts = and_parts (is_place schema p) (are_places schema places) h in
    and_from (is_place schema p) (are_chosen schema (map (own_name schema) places)) parts.0 (own-chosen schema places parts.1)

pub own-has : (schema : List Field) (places : List ℕ) (at : ℕ) → is_among places at ≡ true → has_column (map (own_name schema) places) at ≡ true
own-has schema [] at h = h
own-has schema (p ∷ places) at h =
    elim (or_cases (nat_eq at p) (is_among places at) h) [
      | inl e ↦ or_left (nat_eq p at) (has_column (map (own_name schema) places) at) (eq-eqb p at (sym (eqb-true at p e)))
      | inr r ↦ or_right (nat_eq p at) (has_column (map (own_name schema) places) at) (own-has schema places at r)
    ]

pub all_own-chosen : (schema : List Field) → are_chosen schema (all_own schema) ≡ true
all_own-chosen schema = own-chosen schema (all_places schema) (all-places schema)

pub all_own-has : (schema : List Field) (at : ℕ) → is_place schema at ≡ true → has_column (all_own schema) at ≡ true
all_own-has schema at h = own-has schema (all_places schema) at (among-all schema at (place schema at h))

-- ---- one argument of a choice more

pub append-chosen : (schema : List Field) (had : List (ℕ × List ℕ)) (c : ℕ × List ℕ) → are_chosen schema had ≡ true → is_place schema c.0 ≡ true → are_chosen schema (had ++ c ∷ []) ≡ true
append-chosen schema had c h k = all-append (λ (d : ℕ × List ℕ). is_place schema d.0) had (c ∷ []) h (and_from (is_place schema c.0) true k refl)

with_own-chosen : (schema : List Field) (had : List (ℕ × List ℕ)) (at : ℕ) → are_chosen schema had ≡ true → is_place schema at ≡ true → are_chosen schema (with_own schema had at) ≡ true
with_own-chosen schema had at h k =
    elim (has_column had at) as (λ b. are_chosen schema (cond b had (had ++ own_name schema at ∷ [])) ≡ true) [
      | true ↦ h
      | false ↦ append-chosen schema had (own_name schema at) h k
    ]

pub with_owns-chosen : (schema : List Field) (had : List (ℕ × List ℕ)) (columns : List ℕ) → are_chosen schema had ≡ true → are_places schema columns ≡ true → are_chosen schema (fold (with_own schema) had columns) ≡ true
with_owns-chosen schema had [] h k = h
with_owns-chosen schema had (at ∷ columns) h k =
    let parts = and_parts (is_place schema at) (are_places schema columns) k in
    with_owns-chosen schema (with_own schema had at) columns (with_own-chosen schema had at h parts.0) parts.1

pub without-chosen : (schema : List Field) (had : List (ℕ × List ℕ)) (away : List ℕ) → are_chosen schema had ≡ true → are_chosen schema (without_columns had away) ≡ true
without-chosen schema had away h = all-filter (λ (c : ℕ × List ℕ). is_place schema c.0) (λ c. not (is_among away c.0)) had h

pub taking-chosen : (schema : List Field) (at : ℕ) (new : List ℕ) (had : List (ℕ × List ℕ)) → are_chosen schema had ≡ true → is_place schema at ≡ true → are_chosen schema (map (taking at new) had) ≡ true
taking-chosen schema at new [] h k = refl
taking-chosen schema at new (c ∷ had) h k =
    let parts = and_parts (is_place schema c.0) (are_chosen schema had) h in
    and_from (is_place schema (taking at new c).0) (are_chosen schema (map (taking at new) had))
    (elim (is_column_at at c) as (λ b. is_place schema (cond b (at, new) c).0 ≡ true) [ true ↦ k | false ↦ parts.0 ])
    (taking-chosen schema at new had parts.1 k)

-- a column that takes a new name is still there
pub taking-has : (at : ℕ) (new : List ℕ) (had : List (ℕ × List ℕ)) (other : ℕ) → has_column had other ≡ true → has_column (map (taking at new) had) other ≡ true
taking-has at new [] other h = h
taking-has at new (c ∷ had) other h =
    let same : (b : Bool) → nat_eq c.0 at ≡ b → nat_eq (cond b (at, new) c).0 other ≡ nat_eq c.0 other =
    λ b. elim b as (λ d. nat_eq c.0 at ≡ d → nat_eq (cond d (at, new) c).0 other ≡ nat_eq c.0 other) [ true ↦ λ e. ap (λ n. nat_eq n other) (sym (eqb-true c.0 at e)) | false ↦ λ e. refl ] in
    elim (or_cases (nat_eq c.0 other) (has_column had other) h) [
      | inl e ↦ or_left (nat_eq (taking at new c).0 other) (has_column (map (taking at new) had) other) (same (nat_eq c.0 at) refl ∙ e)
      | inr r ↦ or_right (nat_eq (taking at new c).0 other) (has_column (map (taking at new) had) other) (taking-has at new had other r)
    ]

pub append-has : (had more : List (ℕ × List ℕ)) (at : ℕ) → has_column had at ≡ true → has_column (had ++ more) at ≡ true
append-has had more at h = list_any-append (is_column_at at) had more ∙ or_left (has_column had at) (has_column more at) h
