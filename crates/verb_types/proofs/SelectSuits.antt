-- A checked `select` suits its shape.
use Rattle.std.proofs.Common.{ℕ, Bool, true, false, not, ◌&&◌, cond, Ok, List, [], ◌∷◌, ◌++◌, map, filter, IsTrue, refl}
use Rattle.row_table.specs.declared.field.Field.{Field}
use Rattle.syntax_tree.specs.declared.tree.Arg.{Arg}
use Rattle.term_types.proofs.TypedPieces.{IfGiven, then_given}
use Rattle.verb_forms.specs.declared.verb.Verb.TheVariants.{Select}
use Rattle.verb_forms.specs.Shapes.{ShapeValue, IsShape}
use Rattle.verb_forms.specs.Suits.{is_place, are_places, are_chosen}
use Rattle.selections.specs.Selectors.{selector}
use Rattle.verb_arguments.specs.Arguments.{name_of, value_of, is_unnamed}
use Rattle.verb_types.specs.declared.choice.Choice.{Choice}
use Rattle.verb_types.specs.Steps.{text_or_none, column_of, places_of, own_name, has_column, with_picked, taking, with_named, with_choice, with_choices, has_two_names, all_own, chosen_at_start, with_groups, not_empty, select_of}
use Rattle.verb_types.proofs.Places.{all-append, all-filter, places_of-places}
use Rattle.verb_types.proofs.Choices.{chosen_groups, own-chosen, all_own-chosen, append-chosen, with_owns-chosen, without-chosen, taking-chosen}
use Rattle.verb_types.proofs.Moved.{grouped-has}
use Rattle.verb_types.proofs.Selected.{terms_select}
use Rattle.verb_types.proofs.Promises.{Promised, given_if, column_of-place}

abbrev pub AreChosen : List Field → Choice → Type 0
AreChosen schema had = IsTrue (are_chosen schema had.chosen)

pub picked-chosen : (schema : List Field) (had : Choice) (away : Bool) (columns : List ℕ) → AreChosen schema had → IsTrue (are_places schema columns) → AreChosen schema (with_picked schema had away columns)
picked-chosen schema had true columns h k = without-chosen schema had.chosen columns h
picked-chosen schema had false columns h k = with_owns-chosen schema had.chosen columns h k

pub named-chosen : (schema : List Field) (had : Choice) (new : List ℕ) (at : ℕ) → AreChosen schema had → IsTrue (is_place schema at) → AreChosen schema (with_named had new at)
named-chosen schema had new at h k =
    elim (has_column had.chosen at) as (λ b. IsTrue (are_chosen schema (cond b (map (taking at new) had.chosen) (had.chosen ++ (at, new) ∷ [])))) [
      | true ↦ taking-chosen schema at new had.chosen h k
      | false ↦ append-chosen schema had.chosen (at, new) h k
    ]

one_choice : (schema : List Field) (had : Choice) (a : Arg) → AreChosen schema had → IfGiven (AreChosen schema) (with_choice schema had a)
one_choice schema had a h =
    given_if (AreChosen schema) (is_unnamed a) _ _
    (λ e. then_given (λ columns. IsTrue (are_places schema columns)) (AreChosen schema) (selector schema (value_of a)).columns (λ columns. Ok (with_picked schema had (selector schema (value_of a)).away columns))
    (terms_select schema (value_of a)) (λ columns p. picked-chosen schema had (selector schema (value_of a)).away columns h p))
    (λ e. then_given (λ at. IsTrue (is_place schema at)) (AreChosen schema) (column_of schema (value_of a)) (λ at. Ok (with_named had (text_or_none (name_of a)) at))
    (column_of-place schema (value_of a)) (λ at p. named-chosen schema had (text_or_none (name_of a)) at h p))

all_choices : (schema : List Field) (had : Choice) (args : List Arg) → AreChosen schema had → IfGiven (AreChosen schema) (with_choices schema had args)
all_choices schema had [] h = h
all_choices schema had (a ∷ args) h =
    then_given (AreChosen schema) (AreChosen schema) (with_choice schema had a) (λ now. with_choices schema now args) (one_choice schema had a h) (λ now k. all_choices schema now args k)

start-chosen : (schema : List Field) (args : List Arg) → IsTrue (are_chosen schema (chosen_at_start schema args))
start-chosen schema [] = refl
start-chosen schema (a ∷ args) =
    elim (is_unnamed a && (selector schema (value_of a)).away) as (λ b. IsTrue (are_chosen schema (cond b (all_own schema) []))) [ true ↦ all_own-chosen schema | false ↦ refl ]

groups-chosen : (x : ShapeValue) (chosen : List (ℕ × List ℕ)) → IsTrue (are_chosen x.schema chosen) → IsTrue (are_chosen x.schema (with_groups x chosen))
groups-chosen x chosen h =
    let missing : List ℕ = filter (λ at. not (has_column chosen at)) (places_of x.schema x.groups) in
    all-append (λ (c : ℕ × List ℕ). is_place x.schema c.0) (map (own_name x.schema) missing) chosen
    (own-chosen x.schema missing (all-filter (is_place x.schema) (λ at. not (has_column chosen at)) (places_of x.schema x.groups) (places_of-places x.schema x.groups))) h

pub select_promised : (x : ShapeValue) (at : ℕ) (args : List Arg) → IsShape x → IfGiven (Promised x) (select_of x at args)
select_promised x at args is =
    then_given (AreChosen x.schema) (Promised x) (with_choices x.schema (record { chosen = chosen_at_start x.schema args; given = [] }) args) _
    (all_choices x.schema (record { chosen = chosen_at_start x.schema args; given = [] }) args (start-chosen x.schema args))
    (λ had k. given_if (Promised x) (not (has_two_names had.given) && not_empty (with_groups x had.chosen)) (Ok (Select (with_groups x had.chosen))) _
    (λ e. record {
      form = groups-chosen x had.chosen k;
      grouped = chosen_groups x.schema (with_groups x had.chosen) x.groups is.grouped (λ p h. grouped-has x had.chosen p h);
    })
    (λ e. tt))
