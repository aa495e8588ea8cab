-- The columns that expressions give of rows.
use Rattle.std.specs.Prelude.{List, map}
use Rattle.scalar_value.specs.declared.value.Value.{Value}
use Rattle.na_expr.specs.declared.expr.Expr.{Expr}
use Rattle.na_expr.specs.Evaluation.{val}

-- the values of an expression on rows, in their order
abbrev pub evaluated : Expr → List (List Value) → List Value
evaluated e rows = map (λ row. val row e) rows
