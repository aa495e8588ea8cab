-- What an operator computes, on whole lists of rows, and the words in which its calls say what they give.
use Rattle.std.specs.Prelude.{◌≡◌, ◌⊎◌, true, false, ℕ, ◌+◌, ◌*◌, Bool, cond, nat_lt, ◌&&◌, List, [], ◌∷◌, ◌++◌, length, take, drop, Option, Some, None}
use Rattle.scalar_value.specs.declared.value.Value.{Value}
use Rattle.scalar_value.specs.declared.value.ColType.{ColType}
use Rattle.plan_machine.specs.declared.shape.OpShape.{OpShape}
use Rattle.plan_machine.specs.Batch.{Batch, rows_of}
use Rattle.plan_machine.specs.Phases.{part_count_of}
use Rattle.column_batch.specs.Batches.{BatchValue}

-- An operator as contracts see it.
pub record OpMeaning : Type 0 where
  -- whether it gathers an input whole, gives rows for each batch of an input, and gives rows at its end
  pub shape : OpShape
  -- for a fetch how many rows from the front it wants to see, for any other operator none
  pub wanted : Option ℕ
  -- how many rows a batch has that it makes of what it gathered; an operator that only streams makes none
  pub size : Option ℕ
  -- whether what it streams is cut into parts of that size, as that of a hashjoin
  pub cuts : Bool
  -- `part built rows` is what streamed rows give, where `built` are the rows that it gathered
  pub part : List (List Value) → List (List Value) → List (List Value)
  -- `rest built streamed` is what it gives at its end, where `streamed` are the rows that it streamed. Of an
  -- operator that only gathers, as a sink, it is what it gathered.
  pub rest : List (List Value) → List (List Value) → List (List Value)
  -- whether its columns, expressions and calls have types over inputs with columns of these types
  pub fits : List (List ColType) → Bool
  -- the types of the columns that it gives then
  pub columns : List (List ColType) → List ColType

-- what is told of the first and of the second input, and nothing where there is none
abbrev pub first_of : {A : Type 0} → List (List A) → List A
first_of [] = []
first_of (x ∷ xs) = x

abbrev pub second_of : {A : Type 0} → List (List A) → List A
second_of [] = []
second_of (x ∷ xs) = first_of xs

-- what it gathers: a join its second input, every other operator its one input
abbrev pub folded_of : OpMeaning → List (List ColType) → List ColType
folded_of m inputs = cond m.shape.streams (second_of inputs) (first_of inputs)

-- it gives rows at its end, or is read there, as a sink is
abbrev pub Ends : OpMeaning → Type 0
Ends m = (m.shape.tails ≡ true) ⊎ ((m.shape.folds ≡ true) × (m.shape.streams ≡ false))

-- the plan machine's batch: with how many rows of its output were given before
abbrev pub item : BatchValue → ℕ → Batch (List Value)
item b from = record { index = b.index; rows = b.rows; from = from }

abbrev pub size_or : Option ℕ → ℕ
size_or None = 1
size_or (Some n) = n

abbrev pub size_of : OpMeaning → ℕ
size_of m = size_or m.size

-- what is left of the output of a streamed batch, and the part of it that comes now
abbrev pub left_rows : OpMeaning → List (List Value) → List (List Value) → ℕ → List (List Value)
left_rows m built rows from = drop from (m.part built rows)

abbrev pub sent_rows : OpMeaning → List (List Value) → List (List Value) → ℕ → List (List Value)
sent_rows m built rows from = cond m.cuts (take (size_of m) (left_rows m built rows from)) (left_rows m built rows from)

-- from where the output of the batch goes on, and none where no row of it is left
abbrev pub next_from : OpMeaning → List (List Value) → List (List Value) → ℕ → Option ℕ
next_from m built rows from = cond (m.cuts && nat_lt (size_of m) (length (left_rows m built rows from))) (Some (from + size_of m)) None

-- the rows that come at the end, in how many batches, and batch k of them
abbrev pub end_rows : OpMeaning → List (List Value) → List (Batch (List Value)) → List (List Value)
end_rows m built streamed = m.rest built (rows_of streamed)

abbrev pub end_count : OpMeaning → List (List Value) → List (Batch (List Value)) → ℕ
end_count m built streamed = part_count_of (length (end_rows m built streamed)) (size_of m)

abbrev pub end_part : OpMeaning → List (List Value) → List (Batch (List Value)) → ℕ → List (List Value)
end_part m built streamed k = take (size_of m) (drop (k * size_of m) (end_rows m built streamed))

-- Each of the first list stands for the one at its place in the second list, and there are as many.
abbrev pub Each : {A B : Type 0} → (A → B → Type 0) → List A → List B → Type 0
Each R [] [] = Unit {0}
Each R [] (y ∷ ys) = ⊥
Each R (x ∷ xs) [] = ⊥
Each R (x ∷ xs) (y ∷ ys) = R x y × Each R xs ys

-- one list after another
abbrev pub flat : {A : Type 0} → List (List A) → List A
flat [] = []
flat (x ∷ xs) = x ++ flat xs
