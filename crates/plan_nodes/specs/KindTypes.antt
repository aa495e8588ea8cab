-- The types of columns that nodes take and give.
use Rattle.std.specs.Prelude.{ℕ, zero, suc, nat_eq, Bool, true, false, not, ◌&&◌, ◌||◌, cond, List, [], ◌∷◌, ◌++◌, map, slice_get, Option, Some, None, Result, Ok, Err}
use Rattle.std.specs.List.{list_any}
use Rattle.scalar_value.specs.declared.value.ColType.{ColType}
use Rattle.scalar_value.specs.declared.value.ColType.TheVariants as type
use Rattle.na_expr.specs.declared.expr.Expr.{Expr}
use Rattle.na_expr.specs.declared.expr.TypeFault.{TypeFault}
use Rattle.na_expr.specs.Types.{typed}
use Rattle.row_table.specs.declared.field.Field.{Field}
use Rattle.agg_rules.specs.declared.aggregate.AggKind.{AggKind}
use Rattle.agg_rules.specs.declared.aggregate.AggKind.TheVariants.{Count, Sum, Mean, Min, Max, Distinct, Any, All, First, Last}
use Rattle.agg_rules.specs.declared.aggregate.AggCall.{AggCall}
use Rattle.agg_rules.specs.declared.window.WindowKind.{WindowKind}
use Rattle.agg_rules.specs.declared.window.WindowKind.TheVariants.{Agg, RowNumber, FromEnd, Lag, Lead, Cumsum, MinRank, DenseRank, Before, FillDown, FillUp, FillDownUp, FillUpDown}
use Rattle.agg_rules.specs.Aggregates.{type_of_agg}
use Rattle.plan_nodes.specs.declared.options.LongerSpec.{LongerSpec}
use Rattle.plan_nodes.specs.declared.options.AggSpec.{AggSpec}
use Rattle.plan_nodes.specs.declared.options.SortKey.{SortKey}
use Rattle.plan_nodes.specs.declared.options.WindowCall.{WindowCall}
use Rattle.plan_nodes.specs.declared.options.WindowSpec.{WindowSpec}

abbrev pub same_kind : ColType → ColType → Bool
same_kind type.Int type.Int = true
same_kind type.Dec type.Dec = true
same_kind type.Chr type.Chr = true
same_kind type.Date type.Date = true
same_kind type.Lgl type.Lgl = true
same_kind s t = false

abbrev pub same_kinds : List ColType → List ColType → Bool
same_kinds [] [] = true
same_kinds [] (t ∷ ts) = false
same_kinds (s ∷ ss) [] = false
same_kinds (s ∷ ss) (t ∷ ts) = same_kind s t && same_kinds ss ts

-- ---- expressions

-- columns of these types; an expression names its columns by their places
abbrev pub unnamed : List ColType → List Field
unnamed kinds = map (λ t. record { name = []; kind = t }) kinds

abbrev pub is_ok : Result ColType TypeFault → Bool
is_ok (Ok t) = true
is_ok (Err f) = false

abbrev pub ok_or_lgl : Result ColType TypeFault → ColType
ok_or_lgl (Ok t) = t
ok_or_lgl (Err f) = type.Lgl

abbrev pub is_condition : Result ColType TypeFault → Bool
is_condition (Ok t) = same_kind type.Lgl t
is_condition (Err f) = false

abbrev pub are_typed : List ColType → List Expr → Bool
are_typed kinds [] = true
are_typed kinds (e ∷ es) = is_ok (typed (unnamed kinds) e) && are_typed kinds es

abbrev pub types_of : List ColType → List Expr → List ColType
types_of kinds es = map (λ e. ok_or_lgl (typed (unnamed kinds) e)) es

-- ---- columns by their places

abbrev pub kind_at : List ColType → ℕ → Option ColType
kind_at kinds k = slice_get kinds k

abbrev pub is_there : Option ColType → Bool
is_there None = false
is_there (Some t) = true

abbrev pub kind_or_lgl : Option ColType → ColType
kind_or_lgl None = type.Lgl
kind_or_lgl (Some t) = t

-- the types of the columns at these places
abbrev pub kinds_at : List ColType → List ℕ → List ColType
kinds_at kinds columns = map (λ k. kind_or_lgl (kind_at kinds k)) columns

-- whether the columns are there
abbrev pub are_columns : List ColType → List ℕ → Bool
are_columns kinds [] = true
are_columns kinds (k ∷ ks) = is_there (kind_at kinds k) && are_columns kinds ks

-- whether both are there and have one type
abbrev pub same_column : Option ColType → Option ColType → Bool
same_column None b = false
same_column (Some s) None = false
same_column (Some s) (Some t) = same_kind s t

-- whether each pair of keys has columns, of one type
abbrev pub keys_fit : List ColType → List ColType → List ℕ → List ℕ → Bool
keys_fit left right [] [] = true
keys_fit left right [] (b ∷ bs) = false
keys_fit left right (a ∷ ks) [] = false
keys_fit left right (a ∷ ks) (b ∷ bs) = same_column (kind_at left a) (kind_at right b) && keys_fit left right ks bs

-- ---- longer

-- whether all these columns have the first one's type
abbrev pub all_alike : List ColType → ℕ → List ℕ → Bool
all_alike kinds first [] = true
all_alike kinds first (k ∷ ks) = same_column (kind_at kinds first) (kind_at kinds k) && all_alike kinds first ks

-- there is a chosen column, and all have one type
abbrev pub chosen_fit : List ColType → List ℕ → Bool
chosen_fit kinds [] = false
chosen_fit kinds (k ∷ ks) = all_alike kinds k (k ∷ ks)

abbrev pub chosen_kind : List ColType → List ℕ → ColType
chosen_kind kinds [] = type.Lgl
chosen_kind kinds (k ∷ ks) = kind_or_lgl (kind_at kinds k)

abbrev pub longer_fits : List ColType → LongerSpec → Bool
longer_fits kinds s = are_columns kinds s.kept && chosen_fit kinds s.chosen

-- the kept columns, the column of names, and that of values
abbrev pub longer_kinds : List ColType → LongerSpec → List ColType
longer_kinds kinds s = kinds_at kinds s.kept ++ type.Chr ∷ chosen_kind kinds s.chosen ∷ []

-- ---- aggregate

-- an aggregate takes its argument's column; `n` looks at none
abbrev pub is_count : AggKind → Bool
is_count Count = true
is_count Sum = false
is_count Mean = false
is_count Min = false
is_count Max = false
is_count Distinct = false
is_count Any = false
is_count All = false
is_count First = false
is_count Last = false

abbrev pub call_fits : List ColType → AggCall → Bool
call_fits kinds call = is_there (type_of_agg call.kind call.arg_type) && (is_count call.kind || same_column (Some call.arg_type) (kind_at kinds call.arg))

abbrev pub calls_fit : List ColType → List AggCall → Bool
calls_fit kinds [] = true
calls_fit kinds (call ∷ calls) = call_fits kinds call && calls_fit kinds calls

abbrev pub aggregate_fits : List ColType → AggSpec → Bool
aggregate_fits kinds s = are_columns kinds s.keys && calls_fit kinds s.calls

-- the key columns, and a column for each call
abbrev pub aggregate_kinds : List ColType → AggSpec → List ColType
aggregate_kinds kinds s = kinds_at kinds s.keys ++ map (λ call. kind_or_lgl (type_of_agg call.kind call.arg_type)) s.calls

-- the aggregates that look at the places of rows
abbrev pub looks_at_places : AggKind → Bool
looks_at_places Count = false
looks_at_places Sum = false
looks_at_places Mean = false
looks_at_places Min = false
looks_at_places Max = false
looks_at_places Distinct = false
looks_at_places Any = false
looks_at_places All = false
looks_at_places First = true
looks_at_places Last = true

-- ---- order_by

-- whether one of so many columns is no key
abbrev pub lacks_column : List SortKey → ℕ → Bool
lacks_column ks zero = false
lacks_column ks (suc k) = not (list_any (λ key. nat_eq key.column k) ks) || lacks_column ks k

abbrev pub order_fits : List ColType → List SortKey → Bool
order_fits kinds ks = are_columns kinds (map (λ k. k.column) ks)

-- ---- window

-- running sums are those of numbers
abbrev pub number_type : ColType → Option ColType
number_type type.Int = Some type.Int
number_type type.Dec = Some type.Dec
number_type type.Chr = None
number_type type.Date = None
number_type type.Lgl = None

-- the type of a window call by that of its argument, and none where it does not take it
abbrev pub type_of_window : WindowKind → ColType → Option ColType
type_of_window (Agg kind na_rm t) arg = cond (same_kind t arg) (type_of_agg kind t) None
type_of_window RowNumber arg = Some type.Int
type_of_window FromEnd arg = Some type.Int
type_of_window Lag arg = Some arg
type_of_window Lead arg = Some arg
type_of_window Cumsum arg = number_type arg
type_of_window MinRank arg = Some type.Int
type_of_window DenseRank arg = Some type.Int
type_of_window Before arg = Some type.Int
type_of_window FillDown arg = Some arg
type_of_window FillUp arg = Some arg
type_of_window FillDownUp arg = Some arg
type_of_window FillUpDown arg = Some arg

-- the window calls that look at the places of rows
abbrev pub window_looks_at_places : WindowKind → Bool
window_looks_at_places (Agg kind na_rm t) = looks_at_places kind
window_looks_at_places RowNumber = true
window_looks_at_places FromEnd = true
window_looks_at_places Lag = true
window_looks_at_places Lead = true
window_looks_at_places Cumsum = true
window_looks_at_places MinRank = false
window_looks_at_places DenseRank = false
window_looks_at_places Before = false
window_looks_at_places FillDown = true
window_looks_at_places FillUp = true
window_looks_at_places FillDownUp = true
window_looks_at_places FillUpDown = true

abbrev pub windowed_type : WindowKind → Result ColType TypeFault → Option ColType
windowed_type kind (Ok t) = type_of_window kind t
windowed_type kind (Err f) = None

abbrev pub window_kind : List ColType → WindowCall → Option ColType
window_kind kinds call = windowed_type call.kind (typed (unnamed kinds) call.arg)

abbrev pub windows_fit : List ColType → List WindowCall → Bool
windows_fit kinds [] = true
windows_fit kinds (call ∷ calls) = is_there (window_kind kinds call) && windows_fit kinds calls

abbrev pub window_fits : List ColType → WindowSpec → Bool
window_fits kinds s = are_columns kinds s.keys && windows_fit kinds s.calls

-- the columns, and a column for each call
abbrev pub window_kinds : List ColType → WindowSpec → List ColType
window_kinds kinds s = kinds ++ map (λ call. kind_or_lgl (window_kind kinds call)) s.calls
