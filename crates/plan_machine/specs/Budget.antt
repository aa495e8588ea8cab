-- How many entries a history can have at most.
use Rattle.std.specs.Prelude.{◌≡◌, ℕ, ◌+◌, ◌*◌, ◌≤◌, false, cond, length}
use Rattle.plan_machine.specs.Lists.{sum_to}
use Rattle.plan_machine.specs.Batch.{parts}
use Rattle.plan_machine.specs.Plan.{Plan, IsNode, IsEdge, IsSource, Folds, IsJoin, OnlyStreams}
use Rattle.plan_machine.specs.Meaning.{meaning}

module _ {R : Type 0} (P : Plan R) where
  -- `rows` bounds the rows, and `batches` the batches, that each node gives: a source its own, a node
  -- that streams those of its input (a join also one for each row), and a node's tails one for each row.
  -- The sink gives nothing, so that its rows aren't counted.
  pub record IsBudget (rows batches : ℕ → ℕ) : Type 0 where
    pub of_rows : (n : ℕ) → IsEdge P n → length (meaning P n) ≤ rows n
    pub of_source : (n : ℕ) → IsNode P n → IsSource (P.node n) → parts P.batch (P.node n).table ≤ batches n
    pub of_stream : (n : ℕ) → IsNode P n → OnlyStreams (P.node n) → batches (P.node n).first + cond (P.node n).cuts (rows n) 0 ≤ batches n
    pub of_join : (n : ℕ) → IsNode P n → IsJoin (P.node n) → batches (P.node n).first + rows n ≤ batches n
    pub of_fold : (n : ℕ) → IsNode P n → Folds (P.node n) → (P.node n).streams ≡ false → cond (P.node n).tails (rows n) 0 ≤ batches n

  -- the sum of `10 * batches n + 8` over all nodes n
  abbrev pub most : (ℕ → ℕ) → ℕ
  most batches = sum_to P.sink (λ n. 10 * batches n + 8)
