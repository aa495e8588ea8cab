-- A node as the work at it sees it.
use Rattle.std.specs.Prelude.{ℕ, Bool, List}
use Rattle.scalar_value.specs.declared.value.Value.{Value}
use Rattle.scalar_value.specs.declared.value.ColType.{ColType}
use Rattle.plan_nodes.specs.Operators.{OpMeaning}

pub record Site : Type 0 where
  -- whether it is a source, and then its rows
  pub source : Bool
  pub table : List (List Value)
  -- what its operator computes, and the types of its inputs' columns and of its own
  pub meaning : OpMeaning
  pub inputs : List (List ColType)
  pub columns : List ColType
  -- whether the order of its rows is kept
  pub kept : Bool
  -- the rows of a batch, and the number of workers
  pub batch : ℕ
  pub workers : ℕ
