-- How the shared part of a hashjoin stands for what it gathered and streamed.
use Rattle.std.specs.Prelude.{◌≡◌, true, List, ◌++◌, map, Option, Some, None, IsTrue}
use Rattle.scalar_value.specs.declared.value.Value.{Value}
use Rattle.scalar_value.specs.declared.value.ColType.{ColType}
use Rattle.column_batch.specs.Batches.{fit_kinds}
use Rattle.plan_machine.specs.Batch.{Batch, rows_of}
use Rattle.plan_nodes.specs.Operators.{OpMeaning, first_of, second_of}
use Rattle.plan_nodes.specs.Kinds.{missing_row}

-- the right rows that matched nothing: all of them, until it is known which
abbrev pub left_over : List (List Value) → Option (List (List Value)) → List (List Value)
left_over rows None = rows
left_over rows (Some ends) = ends

-- The gathered rows, and those of them that come at the end of a join that gives some there.
abbrev pub HoldsRight : OpMeaning → List (List ColType) → List (List Value) → Option (List (List Value)) → List (List Value) → List (Batch (List Value)) → Type 0
HoldsRight m inputs rows ends built streamed =
    (rows ≡ built)
    × IsTrue (fit_kinds (second_of inputs) built)
    × IsTrue (fit_kinds (second_of inputs) (left_over rows ends))
    × (m.shape.tails ≡ true → m.rest built (rows_of streamed) ≡ map (λ y. missing_row (first_of inputs) ++ y) (left_over rows ends))
