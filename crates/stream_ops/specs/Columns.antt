-- Rows beside the columns of expressions.
use Rattle.std.specs.Prelude.{List, [], ◌∷◌, ◌++◌, cond}
use Rattle.scalar_value.specs.declared.value.Value.{Value}
use Rattle.scalar_value.specs.Truths.{is_true}

-- the rows beside which the column has TRUE
abbrev pub rows_where : List (List Value) → List Value → List (List Value)
rows_where rows [] = []
rows_where [] (value ∷ values) = []
rows_where (row ∷ rows) (value ∷ values) = cond (is_true value) (row ∷ rows_where rows values) (rows_where rows values)

-- the rows, each one value longer: the first value stands behind the first row, and so on; a row without a value stays as it is
abbrev pub lengthened : List (List Value) → List Value → List (List Value)
lengthened rows [] = rows
lengthened [] (value ∷ values) = []
lengthened (row ∷ rows) (value ∷ values) = (row ++ value ∷ []) ∷ lengthened rows values
