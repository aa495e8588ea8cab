-- How many rows give an expression a value.
use Rattle.std.specs.Prelude.{ℕ, ◌==◌, if◌then◌else◌, List, count_by}
use Rattle.scalar_value.specs.declared.value.Value.{Value}
use Rattle.scalar_value.specs.Order.{value_same}
use Rattle.na_expr.specs.declared.expr.Expr.{Expr}
use Rattle.na_expr.specs.Evaluation.{val}

-- the number of rows on which the expression has this value
abbrev pub rows_giving : Value → Expr → List (List Value) → ℕ
rows_giving wanted e rows = count_by (λ row. value_same (val row e) wanted) rows

-- the same, where the rows were gone through so often
abbrev pub after_turns : ℕ → ℕ → ℕ
after_turns turns count = if turns == 0 then 0 else count
