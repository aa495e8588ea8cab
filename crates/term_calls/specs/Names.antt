-- The functions that a script's expressions may call, by their names.
use Rattle.std.specs.Prelude.{ℕ, List, [], ◌∷◌, codes, Option, Some, None, find}
use Rattle.std.specs.Str.{bytes_eq}
use Rattle.scalar_value.specs.declared.value.ColType.TheVariants.{Lgl}
use Rattle.na_expr.specs.declared.expr.ExprFn.{ExprFn}
use Rattle.na_expr.specs.declared.expr.ExprFn.TheVariants as call
use Rattle.term_calls.specs.declared.names.OtherName.{OtherName}
use Rattle.term_calls.specs.declared.names.OtherName.TheVariants as name
use Rattle.term_calls.specs.declared.names.Callee.{Callee}
use Rattle.term_calls.specs.declared.names.Callee.TheVariants.{Row, AsDate, Grouped, LeftOut, Unknown}

abbrev pub function_name : ExprFn → List ℕ
function_name call.IsNa = codes "is.na"
function_name (call.IfElse t) = codes "if_else"
function_name (call.CaseWhen t) = codes "case_when"
function_name (call.Coalesce t) = codes "coalesce"
function_name call.Between = codes "between"
function_name call.Abs = codes "abs"
function_name call.NChar = codes "nchar"
function_name call.Substr = codes "substr"
function_name call.ToUpper = codes "toupper"
function_name call.ToLower = codes "tolower"
function_name call.StartsWith = codes "startsWith"
function_name call.EndsWith = codes "endsWith"
function_name call.Paste0 = codes "paste0"
function_name call.Year = codes "year"
function_name call.Month = codes "month"
function_name call.Day = codes "day"
function_name call.Wday = codes "wday"
function_name call.AsInteger = codes "as.integer"
function_name call.AsNumeric = codes "as.numeric"
function_name call.AsCharacter = codes "as.character"
function_name f = []

-- the row functions; which type a choice carries is told by its values
abbrev pub row_functions : List ExprFn
row_functions =
    call.IsNa ∷ call.IfElse Lgl ∷ call.CaseWhen Lgl ∷ call.Coalesce Lgl ∷ call.Between ∷ call.Abs ∷ call.NChar ∷ call.Substr ∷ call.ToUpper ∷ call.ToLower ∷ call.StartsWith ∷ call.EndsWith ∷ call.Paste0 ∷ call.Year ∷ call.Month ∷ call.Day ∷ call.Wday ∷ call.AsInteger ∷ call.AsNumeric ∷ call.AsCharacter ∷ []

abbrev pub other_name : OtherName → List ℕ
other_name name.AsDate = codes "as.Date"
other_name name.Count = codes "n"
other_name name.Sum = codes "sum"
other_name name.Mean = codes "mean"
other_name name.Min = codes "min"
other_name name.Max = codes "max"
other_name name.Distinct = codes "n_distinct"
other_name name.Any = codes "any"
other_name name.All = codes "all"
other_name name.First = codes "first"
other_name name.Last = codes "last"
other_name name.RowNumber = codes "row_number"
other_name name.Lag = codes "lag"
other_name name.Lead = codes "lead"
other_name name.Cumsum = codes "cumsum"
other_name name.MinRank = codes "min_rank"
other_name name.DenseRank = codes "dense_rank"
other_name name.Median = codes "median"
other_name name.Quantile = codes "quantile"
other_name name.Var = codes "var"
other_name name.Sd = codes "sd"
other_name name.Round = codes "round"

abbrev pub other_names : List OtherName
other_names =
    name.AsDate ∷ name.Count ∷ name.Sum ∷ name.Mean ∷ name.Min ∷ name.Max ∷ name.Distinct ∷ name.Any ∷ name.All ∷ name.First ∷ name.Last ∷ name.RowNumber ∷ name.Lag ∷ name.Lead ∷ name.Cumsum ∷ name.MinRank ∷ name.DenseRank ∷ name.Median ∷ name.Quantile ∷ name.Var ∷ name.Sd ∷ name.Round ∷ []

-- the aggregates and window calls look at a group; the last five are left out
abbrev pub other_callee : OtherName → Callee
other_callee name.AsDate = AsDate
other_callee name.Median = LeftOut
other_callee name.Quantile = LeftOut
other_callee name.Var = LeftOut
other_callee name.Sd = LeftOut
other_callee name.Round = LeftOut
other_callee n = Grouped

abbrev pub row_function : List ℕ → Option ExprFn
row_function text = find (λ f. bytes_eq text (function_name f)) row_functions

abbrev pub other_function : List ℕ → Option OtherName
other_function text = find (λ n. bytes_eq text (other_name n)) other_names

abbrev pub callee_of : Option ExprFn → Option OtherName → Callee
callee_of (Some f) other = Row f
callee_of None (Some n) = other_callee n
callee_of None None = Unknown

-- what a name stands for where it is called
unfoldable pub callee : List ℕ → Callee
callee text = callee_of (row_function text) (other_function text)
