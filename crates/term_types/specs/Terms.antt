-- What a term of a script is as an expression over columns: the faults of its parts from the left, then its own.
use Rattle.std.specs.Prelude.{ℕ, ℤ, Bool, true, false, ◌&&◌, if◌then◌else◌, codes, Option, Some, None, Result, Ok, Err, List, [], ◌∷◌, ◌++◌, map, position, slice_get}
use Rattle.std.specs.Str.{bytes_eq}
use Rattle.scalar_value.specs.declared.value.Value.{Value}
use Rattle.scalar_value.specs.declared.value.Value.TheVariants as cell
use Rattle.scalar_value.specs.declared.value.ColType.{ColType}
use Rattle.scalar_value.specs.declared.value.ColType.TheVariants.{Int, Dec, Chr, Date, Lgl}
use Rattle.row_table.specs.declared.field.Field.{Field}
use Rattle.na_expr.specs.declared.expr.Expr.{Expr}
use Rattle.na_expr.specs.declared.expr.Expr.TheVariants as expr
use Rattle.na_expr.specs.declared.expr.ExprFn.{ExprFn}
use Rattle.na_expr.specs.declared.expr.ExprFn.TheVariants as call
use Rattle.na_expr.specs.Operators.{negated}
use Rattle.token_scan.specs.declared.token.Reserved.{Reserved}
use Rattle.token_scan.specs.declared.token.Reserved.TheVariants as word
use Rattle.token_scan.specs.declared.token.Oper.{Oper}
use Rattle.token_scan.specs.declared.token.Oper.TheVariants as op
use Rattle.syntax_tree.specs.declared.tree.Term.{Term, Term-F}
use Rattle.syntax_tree.specs.declared.tree.TermKind.TheOpen.{TermKind-F, Arg-F, Call-F, Pipe-F, Name, Whole, Decimal, Str, Word, Unary, Binary, Pipe}
use Rattle.syntax_tree.specs.declared.tree.TermKind.TheOpen as open_kind
use Rattle.syntax_tree.specs.declared.tree.Call.{Call}
use Rattle.syntax_tree.specs.declared.tree.Arg.{Arg}
use Rattle.syntax_tree.specs.declared.tree.TermKind.TheFolds.{fold-Term, fold-Call, fold-Arg}
use Rattle.term_calls.specs.declared.fault.TermFault.{TermFault}
use Rattle.term_calls.specs.declared.fault.TermFaultKind.TheVariants.{UnknownColumn, UnknownFunction, OutOfProfile, WrongArguments, NotBuilt}
use Rattle.term_calls.specs.declared.names.Callee.{Callee}
use Rattle.term_calls.specs.declared.names.Callee.TheVariants.{Row, AsDate, Grouped, LeftOut, Unknown}
use Rattle.term_calls.specs.declared.piece.Piece.{Piece}
use Rattle.term_calls.specs.declared.piece.Piece.TheVariants.{Na, Number, Literal, Typed}
use Rattle.term_types.specs.declared.cases.Cases.{Cases}
use Rattle.term_calls.specs.Faults.{and_then, all_of, fault, stands_at}
use Rattle.term_calls.specs.Pieces.{type_as, expr_as, text_of}
use Rattle.term_calls.specs.Calls.{of_one, cases, text_day, operated, function_call, membership}
use Rattle.term_calls.specs.Names.{callee}

-- what is read of a term: its place; its part as an expression; the parts of its list where it is a `c(..)`; and its two sides
-- where it is a condition with its value, `c ~ v`
pub record Reading : Type 0 where
  pub at : ℕ
  pub value : Result Piece TermFault
  pub items : Result (Option (List (ℕ × Piece))) TermFault
  pub sides : Result (Option (Piece × Piece)) TermFault

-- what is read of an argument
pub record Argument : Type 0 where
  pub name : Option (List ℕ)
  pub at : ℕ
  pub value : Reading

-- none, where there was no fault
abbrev pub none_after : {A B : Type 0} → Result A TermFault → Result (Option B) TermFault
none_after r = and_then r (λ x. Ok None)

-- a term that is neither a list nor a condition with its value
abbrev pub plain_reading : ℕ → Result Piece TermFault → Reading
plain_reading at r = record { at = at; value = r; items = none_after r; sides = none_after r }

-- the part of a term with its place
abbrev pub part_at : ℕ → Result Piece TermFault → Result (ℕ × Piece) TermFault
part_at at r = and_then r (λ p. Ok (at, p))

abbrev pub part : Reading → Result (ℕ × Piece) TermFault
part r = part_at r.at r.value

-- ---- names and literals

abbrev pub place_of : List ℕ → List Field → Option ℕ
place_of name schema = position (λ f. bytes_eq f.name name) schema

abbrev pub field_kind : Option Field → ColType
field_kind None = Lgl
field_kind (Some f) = f.kind

unfoldable pub column_at : List Field → ℕ → Option ℕ → Result Piece TermFault
column_at schema at None = fault UnknownColumn at
column_at schema at (Some i) = Ok (Typed (expr.Col i) (field_kind (slice_get schema i)))

abbrev pub word_piece : Reserved → Piece
word_piece word.True = Literal (cell.Lgl true) Lgl
word_piece word.False = Literal (cell.Lgl false) Lgl
word_piece word.Na = Na
word_piece word.NaInteger = Literal cell.Missing Int
word_piece word.NaReal = Literal cell.Missing Dec
word_piece word.NaCharacter = Literal cell.Missing Chr

-- ---- operators

-- a number with its sign is a literal
abbrev pub negative : ℕ → Piece → Result Piece TermFault
negative at (Number v t) = Ok (Literal (negated v) t)
negative at p = stands_at at (of_one call.Neg p)

unfoldable pub signed : ℕ → Oper → Piece → Result Piece TermFault
signed at op.Sub p = negative at p
signed at op.Not p = stands_at at (of_one call.Not p)
signed at o p = fault WrongArguments at

-- the function of an operator between two values
abbrev pub operator : Oper → Option ExprFn
operator op.Le = Some call.Le
operator op.Ge = Some call.Ge
operator op.Eq = Some call.Eq
operator op.Ne = Some call.Ne
operator op.Mod = Some call.Mod
operator op.FloorDiv = Some call.FloorDiv
operator op.Lt = Some call.Lt
operator op.Gt = Some call.Gt
operator op.Add = Some call.Add
operator op.Sub = Some call.Sub
operator op.Mul = Some call.Mul
operator op.Div = Some call.Div
operator op.And = Some call.And
operator op.Or = Some call.Or
operator o = None

-- `:` and `~` are no operators on values
abbrev pub between_two : ℕ → Option ExprFn → ℕ × Piece → ℕ × Piece → Result Piece TermFault
between_two at None a b = fault WrongArguments at
between_two at (Some f) a b = operated at f a b

abbrev pub is_membership : Oper → Bool
is_membership op.IsIn = true
is_membership o = false

abbrev pub is_tilde : Oper → Bool
is_tilde op.Tilde = true
is_tilde o = false

-- an operator behind its left part
abbrev pub behind_left : ℕ → Oper → ℕ × Piece → Reading → Result Piece TermFault
behind_left at o x r =
    if is_membership o
    then and_then r.items (membership at x)
    else and_then (part r) (between_two at (operator o) x)

abbrev pub binary_value : ℕ → Oper → Reading → Reading → Result Piece TermFault
binary_value at o l r = and_then (part l) (λ x. behind_left at o x r)

abbrev pub both_sides : Reading → Reading → Result (Option (Piece × Piece)) TermFault
both_sides l r = and_then l.value (λ c. and_then r.value (λ v. Ok (Some (c, v))))

abbrev pub binary_reading : ℕ → Oper → Reading → Reading → Reading
binary_reading at o l r =
    let value = binary_value at o l r in
    record { at = at; value = value; items = none_after value; sides = if is_tilde o then both_sides l r else none_after value }

-- ---- calls

-- an argument that is to have no name
abbrev pub unnamed : {A : Type 0} → Option (List ℕ) → ℕ → Result A TermFault → Result A TermFault
unnamed None at r = r
unnamed (Some name) at r = fault WrongArguments at

abbrev pub plain_argument : Argument → Result (ℕ × Piece) TermFault
plain_argument a = unnamed a.name a.at (part a.value)

abbrev pub plain_arguments : List Argument → Result (List (ℕ × Piece)) TermFault
plain_arguments args = all_of (map plain_argument args)

abbrev pub is_none : {A : Type 0} → Option A → Bool
is_none None = true
is_none (Some x) = false

-- an argument of `case_when` without a name: a condition with its value, or one that does not belong there
abbrev pub with_sides : Cases → Option (Piece × Piece) → Cases
with_sides had None = record had { stray = true }
with_sides had (Some sides) = record had { conditions = had.conditions ++ sides ∷ [] }

-- one argument of `case_when` more; its one name is `.default`, and stands once
abbrev pub with_named : Cases → List ℕ → ℕ → Result Piece TermFault → Result Cases TermFault
with_named had name at value =
    if bytes_eq name (codes ".default") && is_none had.default
    then and_then value (λ d. Ok (record had { default = Some d }))
    else fault WrongArguments at

abbrev pub with_case : Cases → Option (List ℕ) → ℕ → Reading → Result Cases TermFault
with_case had None at r = and_then r.sides (λ s. Ok (with_sides had s))
with_case had (Some name) at r = with_named had name at r.value

abbrev pub with_cases : Cases → List Argument → Result Cases TermFault
with_cases had [] = Ok had
with_cases had (a ∷ args) = and_then (with_case had a.name a.at a.value) (λ now. with_cases now args)

abbrev pub no_cases : Cases
no_cases = record { conditions = []; default = None; stray = false }

unfoldable pub case_call : ℕ → Cases → Result Piece TermFault
case_call at had = if had.stray then fault WrongArguments at else stands_at at (cases had.conditions had.default)

abbrev pub is_case_when : ExprFn → Bool
is_case_when (call.CaseWhen t) = true
is_case_when f = false

abbrev pub row_call : ℕ → ExprFn → List Argument → Result Piece TermFault
row_call at f args =
    if is_case_when f then and_then (with_cases no_cases args) (case_call at) else and_then (plain_arguments args) (function_call at f)

-- `as.Date` of a text as it is written; another text, and another argument, is wrong
unfoldable pub day_literal : ℕ → Option (Option ℤ) → Result Piece TermFault
day_literal at None = fault WrongArguments at
day_literal at (Some None) = fault WrongArguments at
day_literal at (Some (Some day)) = Ok (Literal (cell.Day day) Date)

-- the day of the one text in the parentheses
abbrev pub only_day : List (ℕ × Piece) → Option (Option ℤ)
only_day [] = None
only_day (a ∷ []) = text_day (text_of a.1)
only_day (a ∷ b ∷ parts) = None

abbrev pub date_call : ℕ → List (ℕ × Piece) → Result Piece TermFault
date_call at parts = day_literal at (only_day parts)

-- the values of all arguments, whatever their names
abbrev pub any_arguments : List Argument → Result (List Piece) TermFault
any_arguments args = all_of (map (λ (a : Argument). a.value.value) args)

-- a call by what its name stands for; an aggregate or a window call is not built yet
abbrev pub callee_value : ℕ → List Argument → Callee → Result Piece TermFault
callee_value at args (Row f) = row_call at f args
callee_value at args AsDate = and_then (plain_arguments args) (date_call at)
callee_value at args Grouped = fault NotBuilt at
callee_value at args LeftOut = and_then (any_arguments args) (λ ps. fault OutOfProfile at)
callee_value at args Unknown = and_then (any_arguments args) (λ ps. fault UnknownFunction at)

abbrev pub call_items : List ℕ → List Argument → Result Piece TermFault → Result (Option (List (ℕ × Piece))) TermFault
call_items name args value =
    if bytes_eq name (codes "c") then and_then (plain_arguments args) (λ parts. Ok (Some parts)) else none_after value

abbrev pub call_reading : List ℕ → ℕ → List Argument → Reading
call_reading name at args =
    let value = callee_value at args (callee name) in
    record { at = at; value = value; items = call_items name args value; sides = none_after value }

-- ---- terms

abbrev pub kind_step : List Field → TermKind-F (ℕ → Reading) Argument Reading (Unit {0}) Reading → ℕ → Reading
kind_step schema (Name n) at = plain_reading at (column_at schema at (place_of n schema))
kind_step schema (Whole z) at = plain_reading at (Ok (Number (cell.Int z) Int))
kind_step schema (Decimal m) at = plain_reading at (Ok (Number (cell.Dec m) Dec))
kind_step schema (Str text) at = plain_reading at (Ok (Literal (cell.Chr text) Chr))
kind_step schema (Word w) at = plain_reading at (Ok (word_piece w))
kind_step schema (Unary o r) at = plain_reading at (and_then r.value (signed at o))
kind_step schema (Binary o l r) at = binary_reading at o l r
kind_step schema (open_kind.Call r) at = r
kind_step schema (Pipe p) at = plain_reading at (fault WrongArguments at)

abbrev pub arg_step : Arg-F (ℕ → Reading) Argument Reading (Unit {0}) Reading → Argument
arg_step a = record { name = a.name; at = a.at; value = a.value }

abbrev pub call_step : Call-F (ℕ → Reading) Argument Reading (Unit {0}) Reading → Reading
call_step c = call_reading c.name c.at c.args

abbrev pub pipe_step : Pipe-F (ℕ → Reading) Argument Reading (Unit {0}) Reading → Unit {0}
pipe_step p = tt

abbrev pub term_step : Term-F (ℕ → Reading) Argument Reading (Unit {0}) Reading → Reading
term_step t = record (t.kind t.at) { at = t.at }

-- what is read of a term, of a call and of an argument over these columns
abbrev pub reading : List Field → Term → Reading
reading schema = fold-Term (ℕ → Reading) Argument Reading (Unit {0}) Reading (kind_step schema) arg_step call_step pipe_step term_step

abbrev pub called : List Field → Call → Reading
called schema = fold-Call (ℕ → Reading) Argument Reading (Unit {0}) Reading (kind_step schema) arg_step call_step pipe_step term_step

abbrev pub argument : List Field → Arg → Argument
argument schema = fold-Arg (ℕ → Reading) Argument Reading (Unit {0}) Reading (kind_step schema) arg_step call_step pipe_step term_step

-- the part that a term is, or the first fault
abbrev pub piece : List Field → Term → Result Piece TermFault
piece schema t = (reading schema t).value

-- the expression of a term with its type, where no type is needed of it
abbrev pub expression : List Field → Term → Result (Expr × ColType) TermFault
expression schema t = and_then (piece schema t) (λ p. Ok (expr_as Lgl p, type_as Lgl p))
