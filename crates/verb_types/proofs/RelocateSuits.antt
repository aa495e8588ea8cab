-- A checked `relocate` suits its shape.
use Rattle.std.proofs.Common.{ℕ, not, codes, Some, None, Ok, List, [], ◌∷◌, map, IsTrue}
use Rattle.row_table.specs.declared.field.Field.{Field}
use Rattle.syntax_tree.specs.declared.tree.Arg.{Arg}
use Rattle.term_types.proofs.TypedPieces.{IfGiven, then_given}
use Rattle.verb_forms.specs.declared.verb.Verb.TheVariants.{Relocate}
use Rattle.verb_forms.specs.Shapes.{ShapeValue, IsShape}
use Rattle.verb_forms.specs.Suits.{is_place, are_places}
use Rattle.selections.specs.Columns.{all_places, is_among, without}
use Rattle.selections.specs.Selectors.{selector, with_selector, start}
use Rattle.verb_arguments.specs.Arguments.{value_of, is_unnamed, is_named}
use Rattle.verb_types.specs.declared.moves.Move.{Move}
use Rattle.verb_types.specs.Steps.{column_of, own_name, with_move, with_moves, moved_to, anchor_moves, selectors_of, relocate_of}
use Rattle.verb_types.proofs.Places.{all-filter, all-places}
use Rattle.verb_types.proofs.Choices.{whole_groups, own-chosen, own-has}
use Rattle.verb_types.proofs.Moved.{IsAnchor, moved-places, moved-has}
use Rattle.verb_types.proofs.Selected.{with_selector-places, start-places, terms_select}
use Rattle.verb_types.proofs.Promises.{Promised, given_if, column_of-place}

abbrev MoveHas : List Field → Move → Type 0
MoveHas schema had = IsTrue (are_places schema had.chosen) × IsAnchor schema had.anchor

one_move : (schema : List Field) (had : Move) (a : Arg) → MoveHas schema had → IfGiven (MoveHas schema) (with_move schema had a)
one_move schema had a h =
    given_if (MoveHas schema) (is_unnamed a) _ _
    (λ e. then_given (λ columns. IsTrue (are_places schema columns)) (MoveHas schema) (selector schema (value_of a)).columns (λ columns. Ok (record had { chosen = with_selector had.chosen (selector schema (value_of a)) columns }))
    (terms_select schema (value_of a)) (λ columns p. (with_selector-places schema had.chosen (selector schema (value_of a)) columns h.0 p, h.1)))
    (λ e. then_given (λ at. IsTrue (is_place schema at)) (MoveHas schema) (column_of schema (value_of a)) (λ at. Ok (record had { anchor = Some (is_named (codes ".after") a, at) }))
    (column_of-place schema (value_of a)) (λ at p. (h.0, p)))

all_moves : (schema : List Field) (had : Move) (args : List Arg) → MoveHas schema had → IfGiven (MoveHas schema) (with_moves schema had args)
all_moves schema had [] h = h
all_moves schema had (a ∷ args) h =
    then_given (MoveHas schema) (MoveHas schema) (with_move schema had a) (λ now. with_moves schema now args) (one_move schema had a h) (λ now k. all_moves schema now args k)

pub relocate_promised : (x : ShapeValue) (at : ℕ) (args : List Arg) → IsShape x → IfGiven (Promised x) (relocate_of x at args)
relocate_promised x at args is =
    then_given (MoveHas x.schema) (Promised x) (with_moves x.schema (record { chosen = start x.schema (selectors_of x.schema args); anchor = None }) args) _
    (all_moves x.schema (record { chosen = start x.schema (selectors_of x.schema args); anchor = None }) args (start-places x.schema (selectors_of x.schema args), tt))
    (λ had k.
    let rest : List ℕ = without (all_places x.schema) had.chosen in
    let columns : List ℕ = moved_to had.chosen rest had.anchor in
    given_if (Promised x) (anchor_moves had.chosen had.anchor) _ (Ok (Relocate (map (own_name x.schema) columns))) (λ e. tt)
    (λ e. record {
      form = own-chosen x.schema columns (moved-places x.schema had.chosen rest had.anchor k.0 (all-filter (is_place x.schema) (λ p. not (is_among had.chosen p)) (all_places x.schema) (all-places x.schema)));
      grouped = whole_groups x.schema (map (own_name x.schema) columns) x.groups is.grouped (λ p h. own-has x.schema columns p (moved-has x.schema had.chosen had.anchor p k.1 e h));
    }))
