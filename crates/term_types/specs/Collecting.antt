-- The arguments of a `case_when` before its default; no clause of a public function cites it.
use Rattle.std.specs.Prelude.{List, [], ◌∷◌, map}
use Rattle.std.specs.List.{flat_map}
use Rattle.scalar_value.specs.declared.value.ColType.{ColType}
use Rattle.scalar_value.specs.declared.value.ColType.TheVariants.{Lgl}
use Rattle.term_calls.specs.declared.piece.Piece.{Piece}
use Rattle.term_types.specs.declared.cases.CaseCall.{CaseCall}
use Rattle.term_calls.specs.Pieces.{type_as, expr_as}

abbrev pub case_lists : ColType → List (Piece × Piece) → CaseCall
case_lists t cs =
    record { args = flat_map (λ (c : Piece × Piece). expr_as Lgl c.0 ∷ expr_as t c.1 ∷ []) cs; kinds = flat_map (λ (c : Piece × Piece). type_as Lgl c.0 ∷ type_as t c.1 ∷ []) cs; values = map (λ (c : Piece × Piece). type_as t c.1) cs }
