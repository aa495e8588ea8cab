-- Calls of operators and functions over parts: what a free part takes, texts that are dates, and the expression that is made.
use Rattle.std.specs.Prelude.{ℕ, ℤ, Bool, true, false, ◌&&◌, ◌||◌, if◌then◌else◌, Option, Some, None, unwrap_or, Result, Ok, Err, List, [], ◌∷◌, ◌++◌, map}
use Rattle.std.specs.List.{list_all, flat_map}
use Rattle.scalar_value.specs.declared.value.Value.TheVariants as cell
use Rattle.scalar_value.specs.declared.value.ColType.{ColType}
use Rattle.scalar_value.specs.declared.value.ColType.TheVariants.{Int, Chr, Date, Lgl}
use Rattle.scalar_fns.specs.Days.{day_of_text}
use Rattle.na_expr.specs.declared.expr.Expr.{Expr}
use Rattle.na_expr.specs.declared.expr.Expr.TheVariants as expr
use Rattle.na_expr.specs.declared.expr.ExprFn.{ExprFn}
use Rattle.na_expr.specs.declared.expr.ExprFn.TheVariants.{Sub, And, Or, Not, IsIn, IsNa, IfElse, CaseWhen, Coalesce, Between, NChar, ToUpper, ToLower, Paste0, Year, Month, Day, Wday, AsCharacter}
use Rattle.na_expr.specs.declared.expr.TypeFault.{TypeFault}
use Rattle.na_expr.specs.declared.expr.TypeFault.TheVariants as type_fault
use Rattle.na_expr.specs.Evaluation.{is_comparison, is_text_test}
use Rattle.na_expr.specs.Types.{takes, agreed, is_kind}
use Rattle.term_calls.specs.declared.fault.TermFault.{TermFault}
use Rattle.term_calls.specs.declared.fault.TermFaultKind.TheVariants.{WrongArguments, WrongType}
use Rattle.term_calls.specs.declared.piece.Piece.{Piece}
use Rattle.term_calls.specs.declared.piece.Piece.TheVariants.{Free, Literal, Typed}
use Rattle.term_calls.specs.Faults.{and_then, all_of, fault, stands_at}
use Rattle.term_calls.specs.Pieces.{kind_of, type_as, expr_as, is_literal, text_of, first_kind, needed, needed_by, is_free, are_free}

-- ---- the expression that is made

-- the call of a function over expressions of these types
abbrev pub typed_piece : ExprFn → List Expr → Result ColType TypeFault → Result Piece TypeFault
typed_piece f es (Ok t) = Ok (Typed (expr.Call f es) t)
typed_piece f es (Err e) = Err e

unfoldable pub call_of : ExprFn → List Expr → List ColType → Result Piece TypeFault
call_of f es ts = typed_piece f es (takes f ts)

-- ---- functions of one value, of two and of three

-- the type that a free part takes as the one argument of a function: lgl where any will do, else the first of int, dec and date that does
abbrev pub alone : ExprFn → ColType
alone Not = Lgl
alone IsNa = Lgl
alone AsCharacter = Lgl
alone NChar = Chr
alone ToUpper = Chr
alone ToLower = Chr
alone Year = Date
alone Month = Date
alone Day = Date
alone Wday = Date
alone f = Int

unfoldable pub of_one : ExprFn → Piece → Result Piece TypeFault
of_one f a = call_of f (expr_as (alone f) a ∷ []) (type_as (alone f) a ∷ [])

abbrev pub is_logic : ExprFn → Bool
is_logic And = true
is_logic Or = true
is_logic f = false

abbrev pub is_difference : ExprFn → Bool
is_difference Sub = true
is_difference f = false

abbrev pub is_date : Option ColType → Bool
is_date None = false
is_date (Some t) = is_kind t Date

-- the type that a free part takes beside another part
abbrev pub beside : ExprFn → Option ColType → ColType
beside f other =
    if is_comparison f then needed (other ∷ []) else (if is_logic f then Lgl else (if is_text_test f then Chr else Int))

-- the same on the left: only a date has a date taken away from it
abbrev pub before : ExprFn → Option ColType → ColType
before f other = if is_difference f && is_date other then Date else beside f other

unfoldable pub of_two : ExprFn → Piece → Piece → Result Piece TypeFault
of_two f a b =
    let left = before f (kind_of b) in
    let right = beside f (kind_of a) in
    call_of f (expr_as left a ∷ expr_as right b ∷ []) (type_as left a ∷ type_as right b ∷ [])

-- the type on which values agree; lgl where they do not, and then the call has a wrong type
abbrev pub agreement : List ColType → ColType
agreement ts = unwrap_or (unwrap_or (agreed ts) None) Lgl

-- a choice among free values is free
abbrev pub freed : Bool → Piece → Piece
freed false p = p
freed true p = Free

abbrev pub free_where : Bool → Result Piece TypeFault → Result Piece TypeFault
free_where free (Ok p) = Ok (freed free p)
free_where free (Err e) = Err e

-- `if_else(c, a, b)`
abbrev pub choice : Piece → Piece → Piece → Result Piece TypeFault
choice c a b =
    let t = needed (kind_of a ∷ kind_of b ∷ []) in
    let kind = agreement (type_as t a ∷ type_as t b ∷ []) in
    free_where (are_free (kind_of a ∷ kind_of b ∷ [])) (call_of (IfElse kind) (expr_as Lgl c ∷ expr_as t a ∷ expr_as t b ∷ []) (type_as Lgl c ∷ type_as t a ∷ type_as t b ∷ []))

-- `between(x, a, b)`
unfoldable pub within : Piece → Piece → Piece → Result Piece TypeFault
within x a b =
    let t = needed (kind_of x ∷ kind_of a ∷ kind_of b ∷ []) in
    call_of Between (expr_as t x ∷ expr_as t a ∷ expr_as t b ∷ []) (type_as t x ∷ type_as t a ∷ type_as t b ∷ [])

-- any other function of three values: `substr(x, a, b)`
abbrev pub text_part : ExprFn → Piece → Piece → Piece → Result Piece TypeFault
text_part f x a b =
    call_of f (expr_as Chr x ∷ expr_as Int a ∷ expr_as Int b ∷ []) (type_as Chr x ∷ type_as Int a ∷ type_as Int b ∷ [])

abbrev pub of_three : ExprFn → Piece → Piece → Piece → Result Piece TypeFault
of_three (IfElse t) = choice
of_three Between = within
of_three f = text_part f

-- ---- functions of a list of values

-- parts that are to agree, where this type is needed of free ones
unfoldable pub over : ExprFn → ColType → List Piece → Result Piece TypeFault
over f t ps = call_of f (map (expr_as t) ps) (map (type_as t) ps)

-- `x %in% c(..)`, of x and the literals
unfoldable pub in_list : List Piece → Result Piece TypeFault
in_list ps = over IsIn (needed (map kind_of ps)) ps

-- a choice among the parts of a list, by the type of the first that has one
unfoldable pub choice_over : ExprFn → Option ColType → List Piece → Result Piece TypeFault
choice_over f kind ps = free_where (is_free kind) (over f (needed_by kind) ps)

-- the type on which parts agree, where this type is needed of free ones
abbrev pub agreement_as : ColType → List Piece → ColType
agreement_as t ps = agreement (map (type_as t) ps)

-- `coalesce(a, ..)`
unfoldable pub first_there : List Piece → Result Piece TypeFault
first_there ps =
    let kind = first_kind (map kind_of ps) in
    choice_over (Coalesce (agreement_as (needed_by kind) ps)) kind ps

abbrev pub default_of : Option Piece → List Piece
default_of None = []
default_of (Some d) = d ∷ []

abbrev pub default_kind : Option Piece → Option ColType
default_kind None = None
default_kind (Some d) = kind_of d

abbrev pub or_else : Option ColType → Option ColType → Option ColType
or_else None other = other
or_else (Some t) other = Some t

-- the type of the first value of conditions with values and a default that has one
abbrev pub case_kind : List (Piece × Piece) → Option Piece → Option ColType
case_kind [] default = default_kind default
case_kind (c ∷ cs) default = or_else (kind_of c.1) (case_kind cs default)

-- the expressions, their types and the types of the values alone, where this type is needed of free values
abbrev pub case_args : ColType → List (Piece × Piece) → Option Piece → List Expr
case_args t cs default = flat_map (λ c. expr_as Lgl c.0 ∷ expr_as t c.1 ∷ []) cs ++ map (expr_as t) (default_of default)

abbrev pub case_kinds : ColType → List (Piece × Piece) → Option Piece → List ColType
case_kinds t cs default = flat_map (λ c. type_as Lgl c.0 ∷ type_as t c.1 ∷ []) cs ++ map (type_as t) (default_of default)

abbrev pub case_values : ColType → List (Piece × Piece) → Option Piece → List ColType
case_values t cs default = map (λ c. type_as t c.1) cs ++ map (type_as t) (default_of default)

unfoldable pub cases_by : Option ColType → List (Piece × Piece) → Option Piece → Result Piece TypeFault
cases_by kind cs default =
    let t = needed_by kind in
    free_where (is_free kind) (call_of (CaseWhen (agreement (case_values t cs default))) (case_args t cs default) (case_kinds t cs default))

-- `case_when(c ~ v, .., .default = d)`: at least one condition with its value
abbrev pub cases : List (Piece × Piece) → Option Piece → Result Piece TypeFault
cases [] default = Err type_fault.WrongArguments
cases (c ∷ cs) default = cases_by (case_kind (c ∷ cs) default) (c ∷ cs) default

-- ---- a call by its number of parts

abbrev pub of_few : ExprFn → List Piece → Result Piece TypeFault
of_few f [] = Err type_fault.WrongArguments
of_few f (a ∷ []) = of_one f a
of_few f (a ∷ b ∷ []) = of_two f a b
of_few f (a ∷ b ∷ c ∷ []) = of_three f a b c
of_few f (a ∷ b ∷ c ∷ d ∷ ps) = Err type_fault.WrongArguments

abbrev pub is_list_call : ExprFn → Bool
is_list_call (Coalesce t) = true
is_list_call Paste0 = true
is_list_call f = false

abbrev pub of_parts : ExprFn → List Piece → Result Piece TypeFault
of_parts (Coalesce t) = first_there
of_parts Paste0 = over Paste0 Lgl
of_parts f = of_few f

-- ---- texts that stand for dates

-- a day as a literal, or a wrong type at the text that is no date
abbrev pub date_or_wrong : ℕ → Option ℤ → Result Piece TermFault
date_or_wrong at None = fault WrongType at
date_or_wrong at (Some day) = Ok (Literal (cell.Day day) Date)

-- the day of a text, where there is one
abbrev pub text_day : Option (List ℕ) → Option (Option ℤ)
text_day None = None
text_day (Some text) = Some (day_of_text text)

abbrev pub text_as_date : ℕ → Piece → Option (Option ℤ) → Result Piece TermFault
text_as_date at p None = Ok p
text_as_date at p (Some day) = date_or_wrong at day

-- a part beside a date: a text as it is written is read as a date
unfoldable pub beside_date : Bool → ℕ × Piece → Result Piece TermFault
beside_date dated part = if dated then text_as_date part.0 part.1 (text_day (text_of part.1)) else Ok part.1

abbrev pub has_date : ℕ × Piece → Bool
has_date part = is_date (kind_of part.1)

-- ---- calls at their places

-- a comparison
unfoldable pub comparison : ℕ → ExprFn → ℕ × Piece → ℕ × Piece → Result Piece TermFault
comparison at f a b =
    and_then (beside_date (has_date b) a) (λ left. and_then (beside_date (has_date a) b) (λ right. stands_at at (of_two f left right)))

-- an operator between two parts, at its place
unfoldable pub operated : ℕ → ExprFn → ℕ × Piece → ℕ × Piece → Result Piece TermFault
operated at f a b = if is_comparison f then comparison at f a b else stands_at at (of_two f a.1 b.1)

-- `between`, of three parts
unfoldable pub between_parts : ℕ → ℕ × Piece → ℕ × Piece → ℕ × Piece → Result Piece TermFault
between_parts at x a b =
    let dated = has_date x || (has_date a || has_date b) in
    and_then (beside_date dated x) (λ y. and_then (beside_date dated a) (λ low. and_then (beside_date dated b) (λ high. stands_at at (within y low high))))

abbrev pub piece_of_part : ℕ × Piece → Piece
piece_of_part part = part.1

-- any function of row values, over its parts
unfoldable pub function_call : ℕ → ExprFn → List (ℕ × Piece) → Result Piece TermFault
function_call at Between (x ∷ a ∷ b ∷ []) = between_parts at x a b
function_call at f parts = stands_at at (of_parts f (map piece_of_part parts))

-- x and the literals of a list, in which a text beside a date is read as a date
unfoldable pub with_items : ℕ × Piece → List (ℕ × Piece) → Result (List Piece) TermFault
with_items x items = and_then (all_of (map (beside_date (has_date x)) items)) (λ literals. Ok (x.1 ∷ literals))

-- x among these literals
unfoldable pub among_literals : ℕ → ℕ × Piece → List (ℕ × Piece) → Result Piece TermFault
among_literals at x items = and_then (with_items x items) (λ ps. stands_at at (in_list ps))

abbrev pub among_items : ℕ → ℕ × Piece → List (ℕ × Piece) → Result Piece TermFault
among_items at x items =
    if list_all (λ (item : ℕ × Piece). is_literal item.1) items then among_literals at x items else fault WrongArguments at

-- `x %in% c(..)`: the parts of the list are literals
unfoldable pub membership : ℕ → ℕ × Piece → Option (List (ℕ × Piece)) → Result Piece TermFault
membership at x None = fault WrongArguments at
membership at x (Some items) = among_items at x items
