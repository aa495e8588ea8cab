-- The rows that a fetch gives, and what it holds of what it gathered.
use Rattle.std.proofs.Common.{◌≡◌, ℕ, zero, suc, ◌-◌, ◌<◌, ◌≤◌, min, ◌⊎◌, inl, inr, List, [], ◌++◌, length, take, drop, refl, sym, ◌∙◌, ap, arith, length-drop}
use Rattle.std.proofs.lemmas.List.{take_all, drop_all, take-append-le}
use Rattle.std.proofs.lemmas.Bool.Decides.{nat_tests}
use Rattle.scalar_value.specs.declared.value.Value.{Value}
use Rattle.scalar_value.specs.declared.value.ColType.{ColType}
use Rattle.column_batch.proofs.Fitting.{fit_kinds-take, fit_kinds-drop}
use Rattle.plan_nodes.specs.Operators.{first_of}
use Rattle.plan_nodes.specs.KindRows.{fetched}
use Rattle.order_fetch.specs.Sinks.{HoldsRows}

compare : (m n : ℕ) → (m ≤ n) ⊎ (n < m)
compare m n = grind (arith, nat_tests)

drop-least : (offset start : ℕ) (rows : List (List Value)) → start ≡ min offset (length rows) → drop start rows ≡ drop offset rows
drop-least offset start rows least = elim (compare offset (length rows)) [
  | inl within ↦ let same : start ≡ offset = omega arith in ap (λ n. drop n rows) same
  | inr past ↦ drop_all start rows (omega arith) ∙ sym (drop_all offset rows (omega arith))
]

take-least : (count kept : ℕ) (rows : List (List Value)) → kept ≡ min count (length rows) → take kept rows ≡ take count rows
take-least count kept rows least = elim (compare count (length rows)) [
  | inl within ↦ let same : kept ≡ count = omega arith in ap (λ n. take n rows) same
  | inr past ↦ take_all kept rows (omega arith) ∙ sym (take_all count rows (omega arith))
]

-- the first rows are put behind the others, of which so many are kept
pub turned-fetched : (offset count start kept : ℕ) (rows : List (List Value)) → start ≡ min offset (length rows) → kept ≡ min count (length rows - start)
    → take kept (drop start rows ++ take start rows) ≡ fetched offset count rows
turned-fetched offset count start kept rows first least =
    let left : length (drop start rows) ≡ length rows - start = length-drop start rows in
    take-append-le kept (drop start rows) (take start rows) (omega arith)
    ∙ take-least count kept (drop start rows) (omega arith)
    ∙ ap (λ (xs : List (List Value)). take count xs) (drop-least offset start rows first)

-- of no rows a fetch gives none
pub fetched-none : (offset count : ℕ) → fetched offset count [] ≡ []
fetched-none zero zero = refl
fetched-none zero (suc count) = refl
fetched-none (suc offset) zero = refl
fetched-none (suc offset) (suc count) = refl

still-known : (kinds input : List ColType) (rows : List (List Value)) (offset count : ℕ) → (rows ≡ []) ⊎ (kinds ≡ input) → (fetched offset count rows ≡ []) ⊎ (kinds ≡ input)
still-known kinds input rows offset count (inl e) = inl (ap (fetched offset count) e ∙ fetched-none offset count)
still-known kinds input rows offset count (inr e) = inr e

-- some of the rows that are held are those of the rows that they stand for
pub held-fetched : (inputs : List (List ColType)) (kinds : List ColType) (rows built : List (List Value)) (offset count : ℕ) → HoldsRows inputs kinds rows built
    → HoldsRows inputs kinds (fetched offset count rows) (fetched offset count built)
held-fetched inputs kinds rows built offset count holds = (
  ap (fetched offset count) holds.0,
  fit_kinds-take (first_of inputs) count (drop offset rows) (fit_kinds-drop (first_of inputs) offset rows holds.1),
  still-known kinds (first_of inputs) rows offset count holds.2,
)
