-- What the check of a script promises of a verb for the shape of its table.
use Rattle.std.specs.Prelude.{ℕ, Bool, true, false, ◌&&◌, ◌||◌, not, nat_lt, List, [], ◌∷◌, length, Result, Ok, Err, IsTrue}
use Rattle.std.specs.List.{list_any, list_all}
use Rattle.std.specs.Str.{bytes_eq}
use Rattle.std.specs.Cmp.Lexicographic.{pointwise}
use Rattle.scalar_value.specs.declared.value.Value.{Value}
use Rattle.scalar_value.specs.declared.value.ColType.{ColType}
use Rattle.scalar_value.specs.declared.value.ColType.TheVariants.{Lgl}
use Rattle.scalar_value.specs.Order.{is_of_type}
use Rattle.row_table.specs.declared.field.Field.{Field}
use Rattle.row_table.specs.Tables.{among_texts, names_differ, are_groups}
use Rattle.na_expr.specs.declared.expr.TypeFault.{TypeFault}
use Rattle.na_expr.specs.Types.{typed, is_kind}
use Rattle.verb_forms.specs.declared.part.Part.{Part}
use Rattle.verb_forms.specs.declared.verb.Verb.{Verb}
use Rattle.verb_forms.specs.declared.verb.Verb.TheVariants.{Filter, Mutate, Select, Rename, Relocate, GroupBy, Ungroup, DropNa, ReplaceNa}
use Rattle.verb_forms.specs.Shapes.{ShapeValue}
use Rattle.verb_forms.specs.Columns.{name_at, names_at, kind_at}
use Rattle.verb_forms.specs.After.{with_part, after}

abbrev pub is_empty : {X : Type 0} → List X → Bool
is_empty [] = true
is_empty (x ∷ xs) = false

-- whether each of these is the place of a column
abbrev pub is_place : List Field → ℕ → Bool
is_place schema at = nat_lt at (length schema)

abbrev pub are_places : List Field → List ℕ → Bool
are_places schema columns = list_all (is_place schema) columns

abbrev pub are_chosen : List Field → List (ℕ × List ℕ) → Bool
are_chosen schema chosen = list_all (λ c. is_place schema c.0) chosen

-- whether these columns group a verb: those of `.by` where the table has no groups, else the table's groups
abbrev pub is_grouping : ShapeValue → List ℕ → Bool
is_grouping x by = are_places x.schema by && (is_empty x.groups || pointwise bytes_eq (names_at x.schema by) x.groups)

-- whether an expression has a type, and whether it is a truth value
abbrev pub has_type : Result ColType TypeFault → Bool
has_type (Ok t) = true
has_type (Err f) = false

abbrev pub is_truth : Result ColType TypeFault → Bool
is_truth (Ok t) = is_kind t Lgl
is_truth (Err f) = false

-- a condition is a truth value over the columns; aggregates and window calls in expressions are not built yet
abbrev pub is_condition : List Field → Part → Bool
is_condition schema part = is_empty part.calls && is_truth (typed schema part.value)

-- each expression of `mutate` has a type over the columns that the ones before it leave
abbrev pub is_typed : List Field → Part → Bool
is_typed schema part = is_empty part.calls && has_type (typed schema part.value)

abbrev pub are_typed : List Field → List (List ℕ × Part) → Bool
are_typed schema [] = true
are_typed schema (value ∷ values) = is_typed schema value.1 && are_typed (with_part schema value) values

-- whether a column may hold the value that replaces its missing ones
abbrev pub fits_column : List Field → ℕ × Value → Bool
fits_column schema cell = is_place schema cell.0 && is_of_type (kind_at schema cell.0) cell.1

-- whether the parts of a verb fit the shape; the verbs that are not named here are not built yet
abbrev pub has_form : Verb → ShapeValue → Bool
has_form (Filter by conditions) x = is_grouping x by && list_all (is_condition x.schema) conditions
has_form (Mutate by values) x = is_grouping x by && are_typed x.schema values
has_form (Select chosen) x = are_chosen x.schema chosen
has_form (Rename chosen) x = are_chosen x.schema chosen
has_form (Relocate chosen) x = are_chosen x.schema chosen
has_form (GroupBy columns) x = are_places x.schema columns
has_form Ungroup x = true
has_form (DropNa columns) x = are_places x.schema columns
has_form (ReplaceNa cells) x = list_all (fits_column x.schema) cells
has_form v x = false

-- whether a verb would write a column that groups it
abbrev pub writes_group : Verb → ShapeValue → Bool
writes_group (Mutate by values) x = list_any (λ value. among_texts value.0 (names_at x.schema by)) values
writes_group (ReplaceNa cells) x = list_any (λ cell. among_texts (name_at x.schema cell.0) x.groups) cells
writes_group v x = false

-- the parts of the verb fit, no grouping column is written, and what it leaves is a shape: distinct names, and groups
-- that are still columns
pub record Suits (v : Verb) (x : ShapeValue) : Type 0 where
  pub form : IsTrue (has_form v x)
  pub keeps : IsTrue (not (writes_group v x))
  pub named : IsTrue (names_differ (after v x).schema)
  pub grouped : IsTrue (are_groups (after v x).schema (after v x).groups)
