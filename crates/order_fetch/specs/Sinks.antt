-- How the parts of an operator that gathers stand for what it took.
use Rattle.std.specs.Prelude.{◌≡◌, List, [], ◌⊎◌, IsTrue}
use Rattle.scalar_value.specs.declared.value.Value.{Value}
use Rattle.scalar_value.specs.declared.value.ColType.{ColType}
use Rattle.column_batch.specs.Batches.{fit_kinds}
use Rattle.plan_nodes.specs.Operators.{first_of}

-- The gathered rows with the types of their columns. Where no batch came there are no rows, and the types are not known.
abbrev pub HoldsRows : List (List ColType) → List ColType → List (List Value) → List (List Value) → Type 0
HoldsRows inputs kinds rows built =
    (rows ≡ built) × IsTrue (fit_kinds (first_of inputs) rows) × ((rows ≡ []) ⊎ (kinds ≡ first_of inputs))
