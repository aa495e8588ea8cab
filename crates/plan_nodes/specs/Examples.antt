-- What the tests' operators compute, and how their parts stand for batches.
use Rattle.std.specs.Prelude.{◌≡◌, ℕ, false, List, [], ◌∷◌, map, IsTrue}
use Rattle.scalar_value.specs.declared.value.ColType.{ColType}
use Rattle.scalar_value.specs.declared.value.Value.{Value}
use Rattle.row_table.specs.declared.join.JoinKind.TheVariants.{Full}
use Rattle.plan_machine.specs.Batch.{Batch, rows_of}
use Rattle.column_batch.specs.Batches.{BatchValue, fit_kinds}
use Rattle.plan_nodes.specs.declared.options.JoinSpec.{JoinSpec}
use Rattle.plan_nodes.specs.Operators.{OpMeaning, second_of, item}
use Rattle.plan_nodes.specs.Kinds.{join_meaning}

-- a full join by the first column of each input, in which missing values don't match
abbrev pub by_first : JoinSpec
by_first = record { kind = Full; left_keys = 0 ∷ []; right_keys = 0 ∷ []; na_match = false }

-- batches of which nothing was given before
abbrev pub bare : List BatchValue → List (Batch (List Value))
bare batches = map (λ b. item b 0) batches

abbrev pub from_front : List (Batch (List Value)) → List (Batch (List Value))
from_front taken = map {A = Batch (List Value)} (λ t. record t { from = 0 }) taken

-- they have columns of these types, which their rows fit
abbrev pub HaveKinds : List ColType → List BatchValue → Type 0
HaveKinds kinds [] = Unit {0}
HaveKinds kinds (b ∷ bs) = (b.kinds ≡ kinds) × IsTrue (fit_kinds kinds b.rows) × HaveKinds kinds bs

-- A part that keeps the batches that it took.
abbrev pub Keeps : List ColType → List BatchValue → List (Batch (List Value)) → Type 0
Keeps kinds part taken = (from_front taken ≡ bare part) × HaveKinds kinds part

-- the types of the first batch's columns
abbrev pub first_kinds : List BatchValue → List ColType
first_kinds [] = []
first_kinds (b ∷ bs) = b.kinds

abbrev pub first_join : List ColType → List ColType → ℕ → OpMeaning
first_join left right size = join_meaning by_first left right size

-- A shared part that holds the gathered rows and those that come at the end.
abbrev pub Holds : OpMeaning → List (List ColType) → List (List Value) → List (List Value) → List (List Value) → List (Batch (List Value)) → Type 0
Holds m inputs rows ends built streamed =
    (rows ≡ built) × (ends ≡ m.rest built (rows_of streamed)) × IsTrue (fit_kinds (second_of inputs) built) × IsTrue (fit_kinds (m.columns inputs) ends)
