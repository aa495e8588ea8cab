-- The rules of a value by number, from the loosest to the tightest: 0 value, 1 or, 2 and, 3 not, 4 comparison, 5 sum,
-- 6 product, 7 percent, 8 range, 9 unary, 10 primary. Each takes the next tighter one for its operands,
-- or itself: these three tables say all. 11 stands for no rule. And the packages that a script may load.
use Rattle.std.specs.Prelude.{ℕ, List, Bool, ◌||◌, codes}
use Rattle.std.specs.Str.{bytes_eq}
use Rattle.token_scan.specs.declared.token.Oper.{Oper}

-- the rule that a binary operator belongs to; its right operand is of the next tighter rule
abbrev pub binary_rule : Oper → ℕ
binary_rule Oper.Tilde = 0
binary_rule Oper.Or = 1
binary_rule Oper.And = 2
binary_rule Oper.Eq = 4
binary_rule Oper.Ne = 4
binary_rule Oper.Lt = 4
binary_rule Oper.Le = 4
binary_rule Oper.Gt = 4
binary_rule Oper.Ge = 4
binary_rule Oper.Add = 5
binary_rule Oper.Sub = 5
binary_rule Oper.Mul = 6
binary_rule Oper.Div = 6
binary_rule Oper.Mod = 7
binary_rule Oper.FloorDiv = 7
binary_rule Oper.IsIn = 7
binary_rule Oper.Colon = 8
binary_rule _ = 11

-- the rule of a binary operator's left operand: the operator's own where operators of the rule group to the left,
-- the next tighter one where the rule has at most one operator
abbrev pub left_rule : Oper → ℕ
left_rule Oper.Tilde = 1
left_rule Oper.Or = 1
left_rule Oper.And = 2
left_rule Oper.Eq = 5
left_rule Oper.Ne = 5
left_rule Oper.Lt = 5
left_rule Oper.Le = 5
left_rule Oper.Gt = 5
left_rule Oper.Ge = 5
left_rule Oper.Add = 5
left_rule Oper.Sub = 5
left_rule Oper.Mul = 6
left_rule Oper.Div = 6
left_rule Oper.Mod = 7
left_rule Oper.FloorDiv = 7
left_rule Oper.IsIn = 7
left_rule Oper.Colon = 9
left_rule _ = 11

-- the rule that an operator before its operand belongs to, which is also that of the operand
abbrev pub prefix_rule : Oper → ℕ
prefix_rule Oper.Not = 3
prefix_rule Oper.Sub = 9
prefix_rule _ = 11

-- the packages that a script may load, which does nothing
abbrev pub is_package : List ℕ → Bool
is_package name =
    bytes_eq name (codes "dplyr") || bytes_eq name (codes "tidyr") || bytes_eq name (codes "lubridate")
    || bytes_eq name (codes "tidyverse")
