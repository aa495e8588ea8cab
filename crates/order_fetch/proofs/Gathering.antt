-- What an operator that gathers holds after its batches were put together, and the parts of it that it gives.
use Rattle.std.proofs.Common.{◌≡◌, ℕ, ◌+◌, ◌-◌, ◌*◌, ◌/◌, ◌<◌, ◌⊎◌, inl, inr, List, [], length, take, drop, Result, Ok, Err, IfOk, ◌∙◌, sym, ap, subst, IsTrue, arith, div-lt_iff_lt-mul}
use Rattle.scalar_value.specs.declared.value.Value.{Value}
use Rattle.scalar_value.specs.declared.value.ColType.{ColType}
use Rattle.plan_machine.specs.Batch.{Batch, gathered}
use Rattle.plan_machine.specs.Phases.{part_count_of}
use Rattle.column_batch.specs.Batches.{BatchValue, fit_kinds}
use Rattle.plan_nodes.specs.Operators.{Each, flat, first_of}
use Rattle.plan_nodes.specs.Examples.{bare, first_kinds, Keeps}
use Rattle.plan_nodes.proofs.Parts.{keeps-flat, keeps-gathered, keeps-fit, first-kinds}
use Rattle.order_fetch.specs.Sinks.{HoldsRows}

-- the types of the first batch are those of the input, or there is no row
known-kinds : (kinds : List ColType) (part : List BatchValue) (rows : List (List Value)) (first : List ColType) → rows ≡ gathered (bare part) → first ≡ first_kinds part
    → (gathered (bare part) ≡ []) ⊎ (first_kinds part ≡ kinds) → (rows ≡ []) ⊎ (first ≡ kinds)
known-kinds kinds part rows first made is (inl e) = inl (made ∙ e)
known-kinds kinds part rows first made is (inr e) = inr (is ∙ e)

pub sealed : (inputs : List (List ColType)) (locals : List (List BatchValue)) (lists : List (List (Batch (List Value)))) (all : List BatchValue) (kinds : List ColType) (rows : List (List Value))
    → all ≡ flat locals → kinds ≡ first_kinds all → rows ≡ gathered (bare all) → Each (Keeps (first_of inputs)) locals lists
    → HoldsRows inputs kinds rows (gathered (flat lists))
sealed inputs locals lists all kinds rows same is made each =
    let keeps = keeps-flat (first_of inputs) locals lists each in
    let whole : rows ≡ gathered (bare (flat locals)) = made ∙ ap (λ bs. gathered (bare bs)) same in (
      whole ∙ keeps-gathered (first_of inputs) (flat locals) (flat lists) keeps,
      ap (fit_kinds (first_of inputs)) whole ∙ keeps-fit (first_of inputs) (flat locals) keeps.1,
      known-kinds (first_of inputs) (flat locals) rows kinds whole (is ∙ ap first_kinds same) (first-kinds (first_of inputs) (flat locals) keeps.1),
    )

-- what is held fits the types that are held
fit-by : (inputs : List (List ColType)) (kinds : List ColType) (rows : List (List Value)) → IsTrue (fit_kinds (first_of inputs) rows) → (rows ≡ []) ⊎ (kinds ≡ first_of inputs) → IsTrue (fit_kinds kinds rows)
fit-by inputs kinds rows fit (inl e) = ap (fit_kinds kinds) e
fit-by inputs kinds rows fit (inr e) = ap (λ ks. fit_kinds ks rows) e ∙ fit

pub held-fit : (inputs : List (List ColType)) (kinds : List ColType) (rows built : List (List Value)) → HoldsRows inputs kinds rows built → IsTrue (fit_kinds kinds rows)
held-fit inputs kinds rows built holds = fit-by inputs kinds rows holds.1 holds.2

-- no rows have no part
no-part : (size k : ℕ) → 0 < size → k < part_count_of 0 size → ⊥
no-part size k sized below =
    let none : (0 + (size - 1)) / size < 1 = (div-lt_iff_lt-mul sized).1 (omega arith) in
    omega arith

-- where there is a part there are rows, so the types of their columns are known
known-part : (kinds input : List ColType) (rows built : List (List Value)) (size k : ℕ) → 0 < size → rows ≡ built → k < part_count_of (length built) size → (rows ≡ []) ⊎ (kinds ≡ input) → kinds ≡ input
known-part kinds input rows built size k sized same below (inl e) = absurd (no-part size k sized (subst (λ (xs : List (List Value)). k < part_count_of (length xs) size) (sym same ∙ e) below))
known-part kinds input rows built size k sized same below (inr e) = e

-- a part of what is held is that part of what it stands for, with the input's columns
pub part-given : {E : Type 0} (inputs : List (List ColType)) (kinds : List ColType) (rows built : List (List Value)) (size k : ℕ) (made : Result BatchValue E)
    → 0 < size → HoldsRows inputs kinds rows built → k < part_count_of (length built) size
    → IfOk made (λ b. b.rows ≡ take size (drop (k * size) rows)) → IfOk made (λ b. b.kinds ≡ kinds)
    → IfOk made (λ b. (b.rows ≡ take size (drop (k * size) built)) × (b.kinds ≡ first_of inputs))
part-given inputs kinds rows built size k (Ok b) sized holds below same are = (
  same ∙ ap (λ (xs : List (List Value)). take size (drop (k * size) xs)) holds.0,
  are ∙ known-part kinds (first_of inputs) rows built size k sized holds.0 below holds.2,
)
part-given inputs kinds rows built size k (Err e) sized holds below same are = same
