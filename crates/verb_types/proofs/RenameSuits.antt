-- A checked `rename` suits its shape.
use Rattle.std.proofs.Common.{◌≡◌, ℕ, true, false, not, cond, Ok, List, [], ◌∷◌, ◌++◌, map, IsTrue}
use Rattle.std.specs.List.{list_all}
use Rattle.std.proofs.lemmas.Bool.{and_parts, both_ways, not-true}
use Rattle.row_table.specs.declared.field.Field.{Field}
use Rattle.syntax_tree.specs.declared.tree.Arg.{Arg}
use Rattle.term_types.proofs.TypedPieces.{IfGiven, then_given}
use Rattle.verb_forms.specs.declared.verb.Verb.TheVariants.{Rename}
use Rattle.verb_forms.specs.Shapes.{ShapeValue, IsShape}
use Rattle.verb_forms.specs.Suits.{is_place}
use Rattle.verb_arguments.specs.Arguments.{name_of, value_of, is_unnamed, is_column}
use Rattle.verb_arguments.specs.Forms.{is_renaming}
use Rattle.verb_types.specs.declared.choice.Choice.{Choice}
use Rattle.verb_types.specs.Steps.{text_or_none, column_of, has_column, taking, with_named, with_choice, with_choices, has_two_names, all_own, rename_of}
use Rattle.verb_types.proofs.Choices.{whole_groups, all_own-chosen, all_own-has, taking-has, append-has}
use Rattle.verb_types.proofs.SelectSuits.{AreChosen, named-chosen}
use Rattle.verb_types.proofs.Promises.{Promised, given_if, column_of-place}

-- every column is chosen
abbrev AllChosen : List Field → Choice → Type 0
AllChosen schema had = AreChosen schema had × ((at : ℕ) → IsTrue (is_place schema at) → has_column had.chosen at ≡ true)

named-has : (had : Choice) (new : List ℕ) (at other : ℕ) → has_column had.chosen other ≡ true → has_column (with_named had new at).chosen other ≡ true
named-has had new at other h =
    elim (has_column had.chosen at) as (λ b. has_column (cond b (map (taking at new) had.chosen) (had.chosen ++ (at, new) ∷ [])) other ≡ true) [
      | true ↦ taking-has at new had.chosen other h
      | false ↦ append-has had.chosen ((at, new) ∷ []) other h
    ]

one_renaming : (schema : List Field) (had : Choice) (a : Arg) → is_renaming a ≡ true → AllChosen schema had → IfGiven (AllChosen schema) (with_choice schema had a)
one_renaming schema had a form h =
    given_if (AllChosen schema) (is_unnamed a) _ _
    (λ e. absurd (both_ways (is_unnamed a) (not-true (is_unnamed a) (and_parts (not (is_unnamed a)) (is_column (value_of a)) form).0) e))
    (λ e. then_given (λ at. IsTrue (is_place schema at)) (AllChosen schema) (column_of schema (value_of a)) (λ at. Ok (with_named had (text_or_none (name_of a)) at))
    (column_of-place schema (value_of a)) (λ at p. (named-chosen schema had (text_or_none (name_of a)) at h.0 p, λ other q. named-has had (text_or_none (name_of a)) at other (h.1 other q))))

all_renamings : (schema : List Field) (had : Choice) (args : List Arg) → list_all is_renaming args ≡ true → AllChosen schema had → IfGiven (AllChosen schema) (with_choices schema had args)
all_renamings schema had [] form h = h
all_renamings schema had (a ∷ args) form h =
    let parts = and_parts (is_renaming a) (list_all is_renaming args) form in
    then_given (AllChosen schema) (AllChosen schema) (with_choice schema had a) (λ now. with_choices schema now args) (one_renaming schema had a parts.0 h) (λ now k. all_renamings schema now args parts.1 k)

pub rename_promised : (x : ShapeValue) (at : ℕ) (args : List Arg) → IsShape x → list_all is_renaming args ≡ true → IfGiven (Promised x) (rename_of x at args)
rename_promised x at args is form =
    then_given (AllChosen x.schema) (Promised x) (with_choices x.schema (record { chosen = all_own x.schema; given = [] }) args) _
    (all_renamings x.schema (record { chosen = all_own x.schema; given = [] }) args form (all_own-chosen x.schema, all_own-has x.schema))
    (λ had k. given_if (Promised x) (has_two_names had.given) _ (Ok (Rename had.chosen)) (λ e. tt)
    (λ e. record { form = k.0; grouped = whole_groups x.schema had.chosen x.groups is.grouped k.1 }))
