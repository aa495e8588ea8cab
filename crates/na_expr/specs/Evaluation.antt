-- The value of an expression on a row.
use Rattle.std.specs.Prelude.{nat_eq, List, [], ◌∷◌, map, slice_get, unwrap_or, Bool, true, false}
use Rattle.std.specs.List.{starts_with, ends_with}
use Rattle.std.specs.declared.cmp.Ordering.{Ordering}
use Rattle.std.specs.Ordering.{is_eq, is_ne, is_lt, is_le, is_gt, is_ge}
use Rattle.std.specs.Char.{to_ascii_uppercase, to_ascii_lowercase}
use Rattle.scalar_value.specs.declared.value.Value.{Value}
use Rattle.scalar_value.specs.declared.value.Value.TheVariants as cell
use Rattle.scalar_value.specs.declared.arithmetic.NumOp.TheVariants as op
use Rattle.scalar_value.specs.Truths.{is_missing}
use Rattle.scalar_fns.specs.Days.{year_of, month_of, month_day_of, wday_of}
use Rattle.na_expr.specs.declared.expr.ExprFn.{ExprFn}
use Rattle.na_expr.specs.declared.expr.ExprFn.TheVariants.{Neg, Add, Sub, Mul, Div, FloorDiv, Mod, Eq, Ne, Lt, Le, Gt, Ge, Not, And, Or, IsIn, IsNa, IfElse, CaseWhen, Coalesce, Between, Abs, NChar, Substr, ToUpper, ToLower, StartsWith, EndsWith, Paste0, Year, Month, Day, Wday, AsInteger, AsNumeric, AsCharacter}
use Rattle.na_expr.specs.declared.expr.Expr.{Expr}
use Rattle.na_expr.specs.declared.expr.Expr.TheOpen.{Expr-F, Col, Lit, Call}
use Rattle.na_expr.specs.declared.expr.Expr.TheFolds.{fold-Expr}
use Rattle.na_expr.specs.Operators.{negated, absolute, on_numbers, added, taken_away, compared, negation, both_true, either_true, among, between, carried, chosen, first_case, first_there, text_length, on_text, part_of, on_texts, pasted, on_day, to_integer, to_decimal, to_text}

-- a function of one value, of two and of three; another number of values gives a missing one
abbrev pub of_one : (Value → Value) → List Value → Value
of_one f [] = cell.Missing
of_one f (a ∷ []) = f a
of_one f (a ∷ b ∷ vs) = cell.Missing

abbrev pub of_two : (Value → Value → Value) → List Value → Value
of_two f [] = cell.Missing
of_two f (a ∷ []) = cell.Missing
of_two f (a ∷ b ∷ []) = f a b
of_two f (a ∷ b ∷ c ∷ vs) = cell.Missing

abbrev pub of_three : (Value → Value → Value → Value) → List Value → Value
of_three f [] = cell.Missing
of_three f (a ∷ []) = cell.Missing
of_three f (a ∷ b ∷ []) = cell.Missing
of_three f (a ∷ b ∷ c ∷ []) = f a b c
of_three f (a ∷ b ∷ c ∷ d ∷ vs) = cell.Missing

-- whether a function takes a list of any length
abbrev pub takes_list : ExprFn → Bool
takes_list IsIn = true
takes_list (CaseWhen t) = true
takes_list (Coalesce t) = true
takes_list Paste0 = true
takes_list f = false

-- whether a function is of one text
abbrev pub is_text_function : ExprFn → Bool
is_text_function NChar = true
is_text_function ToUpper = true
is_text_function ToLower = true
is_text_function f = false

-- whether a function is a test on two texts
abbrev pub is_text_test : ExprFn → Bool
is_text_test StartsWith = true
is_text_test EndsWith = true
is_text_test f = false

-- whether a function is a comparison, and for which orders it is TRUE
abbrev pub is_comparison : ExprFn → Bool
is_comparison Eq = true
is_comparison Ne = true
is_comparison Lt = true
is_comparison Le = true
is_comparison Gt = true
is_comparison Ge = true
is_comparison f = false

abbrev pub test_of : ExprFn → Ordering → Bool
test_of Eq = is_eq
test_of Ne = is_ne
test_of Lt = is_lt
test_of Le = is_le
test_of Gt = is_gt
test_of Ge = is_ge
test_of f = λ o. false

-- whether a function gives a part of a day
abbrev pub is_day_part : ExprFn → Bool
is_day_part Year = true
is_day_part Month = true
is_day_part Day = true
is_day_part Wday = true
is_day_part f = false

-- the value of each operator and function on the values of its arguments
abbrev pub call_value : ExprFn → List Value → Value
call_value Neg = of_one negated
call_value Add = of_two added
call_value Sub = of_two taken_away
call_value Mul = of_two (on_numbers op.Mul)
call_value Div = of_two (on_numbers op.Div)
call_value FloorDiv = of_two (on_numbers op.FloorDiv)
call_value Mod = of_two (on_numbers op.Mod)
call_value Eq = of_two (compared is_eq)
call_value Ne = of_two (compared is_ne)
call_value Lt = of_two (compared is_lt)
call_value Le = of_two (compared is_le)
call_value Gt = of_two (compared is_gt)
call_value Ge = of_two (compared is_ge)
call_value Not = of_one negation
call_value And = of_two both_true
call_value Or = of_two either_true
call_value IsIn = among
call_value IsNa = of_one (λ v. cell.Lgl (is_missing v))
call_value (IfElse t) = of_three (chosen t)
call_value (CaseWhen t) = first_case t
call_value (Coalesce t) = λ vs. carried t (first_there vs)
call_value Between = of_three between
call_value Abs = of_one absolute
call_value NChar = of_one text_length
call_value Substr = of_three part_of
call_value ToUpper = of_one (on_text (map to_ascii_uppercase))
call_value ToLower = of_one (on_text (map to_ascii_lowercase))
call_value StartsWith = of_two (on_texts (starts_with nat_eq))
call_value EndsWith = of_two (on_texts (ends_with nat_eq))
call_value Paste0 = pasted
call_value Year = of_one (on_day year_of)
call_value Month = of_one (on_day month_of)
call_value Day = of_one (on_day month_day_of)
call_value Wday = of_one (on_day wday_of)
call_value AsInteger = of_one to_integer
call_value AsNumeric = of_one to_decimal
call_value AsCharacter = of_one to_text

-- a column's value, a literal, or the value of a call on the values of its arguments
abbrev pub step_value : List Value → Expr-F Value → Value
step_value row (Col at) = unwrap_or (slice_get row at) cell.Missing
step_value row (Lit v t) = v
step_value row (Call f values) = call_value f values

-- the value of an expression on a row
abbrev pub val : List Value → Expr → Value
val row = fold-Expr Value (step_value row)
