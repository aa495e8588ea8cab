-- What the types of expressions say of their values.
use Rattle.std.specs.Prelude.{◌≡◌, List, IsTrue, Ok}
use Rattle.scalar_value.specs.declared.value.Value.{Value}
use Rattle.scalar_value.specs.declared.value.ColType.{ColType}
use Rattle.scalar_value.specs.Order.{is_of_type}
use Rattle.row_table.specs.declared.field.Field.{Field}
use Rattle.row_table.specs.Tables.{fits_row}
use Rattle.na_expr.specs.declared.expr.Expr.{Expr}
use Rattle.na_expr.specs.Evaluation.{val}
use Rattle.na_expr.specs.Types.{typed}

-- on a row that fits the columns, the value of an expression that has a type is of that type or missing
abbrev pub ValuesAreTyped : Type 0
ValuesAreTyped =
    (schema : List Field) (row : List Value) (e : Expr) (t : ColType) → IsTrue (fits_row schema row) → typed schema e ≡ Ok t → IsTrue (is_of_type t (val row e))
