-- The inputs of a node: by their places, and where it has one or two.
use Rattle.std.proofs.Common.{◌≡◌, ℕ, Bool, true, false, cond, List, [], ◌∷◌, length, map, refl, sym, arith, IsTrue, eq-eqb}
use Rattle.std.specs.List.{Contains}
use Rattle.row_table.specs.declared.table.Mark.{Mark}
use Rattle.plan_machine.specs.declared.entry.Phase.TheVariants.{Emitting, Folding, Streaming}
use Rattle.plan_machine.specs.Phases.{first_phase_of}
use Rattle.plan_machine.specs.declared.shape.OpShape.{OpShape}
use Rattle.plan_nodes.specs.Plans.{input_at, are_apart, first_mark}

pub first-in : (es : List ℕ) → length es ≡ 1 → Contains es (input_at es 0)
first-in [] e = absurd (omega arith)
first-in (a ∷ es) e = (0, omega arith, refl)

pub first-of-two : (es : List ℕ) → length es ≡ 2 → Contains es (input_at es 0)
first-of-two [] e = absurd (omega arith)
first-of-two (a ∷ es) e = (0, omega arith, refl)

pub second-of-two : (es : List ℕ) → length es ≡ 2 → Contains es (input_at es 1)
second-of-two [] e = absurd (omega arith)
second-of-two (a ∷ []) e = absurd (omega arith)
second-of-two (a ∷ b ∷ es) e = (1, omega arith, refl)

pub two-apart : (es : List ℕ) → length es ≡ 2 → IsTrue (are_apart es) → input_at es 0 ≡ input_at es 1 → ⊥
two-apart [] e apart same = absurd (omega arith)
two-apart (a ∷ []) e apart same = absurd (omega arith)
two-apart (a ∷ b ∷ es) e apart same = let t = eq-eqb b a (sym same) in let h = rw t at apart in cc

-- the mark of the first input is that of the node at its place
pub first-marked : (mark : ℕ → Mark) (es : List ℕ) → length es ≡ 1 → first_mark (map mark es) ≡ mark (input_at es 0)
first-marked mark [] e = absurd (omega arith)
first-marked mark (a ∷ es) e = refl

-- in which phase a node starts says what it does
pub starts-emitting : (source : Bool) (shape : OpShape) → first_phase_of source shape ≡ Emitting → source ≡ true
starts-emitting true shape e = refl
starts-emitting false shape e =
    elim shape.folds as (λ f. cond f Folding Streaming ≡ Emitting → false ≡ true) [ true ↦ λ k. absurd (cc) | false ↦ λ k. absurd (cc) ] e

pub starts-folding : (source : Bool) (shape : OpShape) → first_phase_of source shape ≡ Folding → (source ≡ false) × (shape.folds ≡ true)
starts-folding true shape e = absurd (cc)
starts-folding false shape e =
    elim shape.folds as (λ f. cond f Folding Streaming ≡ Folding → (false ≡ false) × (f ≡ true)) [ true ↦ λ k. (refl, refl) | false ↦ λ k. absurd (cc) ] e

pub starts-streaming : (source : Bool) (shape : OpShape) → first_phase_of source shape ≡ Streaming → (source ≡ false) × (shape.folds ≡ false)
starts-streaming true shape e = absurd (cc)
starts-streaming false shape e =
    elim shape.folds as (λ f. cond f Folding Streaming ≡ Streaming → (false ≡ false) × (f ≡ false)) [ true ↦ λ k. absurd (cc) | false ↦ λ k. (refl, refl) ] e

pub source-emits : (source : Bool) (shape : OpShape) → source ≡ true → first_phase_of source shape ≡ Emitting
source-emits source shape e = rw e refl

pub folds-first : (source : Bool) (shape : OpShape) → source ≡ false → shape.folds ≡ true → first_phase_of source shape ≡ Folding
folds-first source shape e f = rw e (rw f refl)

pub streams-first : (source : Bool) (shape : OpShape) → source ≡ false → shape.folds ≡ false → first_phase_of source shape ≡ Streaming
streams-first source shape e f = rw e (rw f refl)
