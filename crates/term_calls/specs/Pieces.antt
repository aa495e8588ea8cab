-- Parts of expressions. A part that missing values alone decide is free: it takes the type that is needed of it.
use Rattle.std.specs.Prelude.{ℕ, Bool, true, false, Option, Some, None, unwrap_or, List, [], ◌∷◌}
use Rattle.scalar_value.specs.declared.value.Value.{Value}
use Rattle.scalar_value.specs.declared.value.Value.TheVariants as cell
use Rattle.scalar_value.specs.declared.value.ColType.{ColType}
use Rattle.scalar_value.specs.declared.value.ColType.TheVariants.{Int, Dec, Chr, Date, Lgl}
use Rattle.na_expr.specs.declared.expr.Expr.{Expr}
use Rattle.na_expr.specs.declared.expr.Expr.TheVariants as expr
use Rattle.term_calls.specs.declared.piece.Piece.{Piece}
use Rattle.term_calls.specs.declared.piece.Piece.TheVariants.{Na, Free, Number, Literal, Typed}

-- the type of a part, and none of one that is free
abbrev pub kind_of : Piece → Option ColType
kind_of Na = None
kind_of Free = None
kind_of (Number v t) = Some t
kind_of (Literal v t) = Some t
kind_of (Typed e t) = Some t

-- the type of a part where this one is needed of a free part
abbrev pub type_as : ColType → Piece → ColType
type_as t p = unwrap_or (kind_of p) t

-- the expression of a part where this type is needed of a free part
abbrev pub expr_as : ColType → Piece → Expr
expr_as t Na = expr.Lit cell.Missing t
expr_as t Free = expr.Lit cell.Missing t
expr_as t (Number v u) = expr.Lit v u
expr_as t (Literal v u) = expr.Lit v u
expr_as t (Typed e u) = e

abbrev pub is_literal : Piece → Bool
is_literal Na = true
is_literal Free = false
is_literal (Number v t) = true
is_literal (Literal v t) = true
is_literal (Typed e t) = false

abbrev pub text_value : Value → Option (List ℕ)
text_value (cell.Chr text) = Some text
text_value v = None

-- the text of a part that is a text as it is written
abbrev pub text_of : Piece → Option (List ℕ)
text_of Na = None
text_of Free = None
text_of (Number v t) = None
text_of (Literal v t) = text_value v
text_of (Typed e t) = None

-- where a decimal will do, a whole number does too
abbrev pub first_of_numbers : ColType → ColType
first_of_numbers Int = Int
first_of_numbers Dec = Int
first_of_numbers Chr = Chr
first_of_numbers Date = Date
first_of_numbers Lgl = Lgl

-- the type of the first part that has one
abbrev pub first_kind : List (Option ColType) → Option ColType
first_kind [] = None
first_kind (None ∷ ks) = first_kind ks
first_kind (Some t ∷ ks) = Some t

abbrev pub needed_by : Option ColType → ColType
needed_by None = Lgl
needed_by (Some t) = first_of_numbers t

-- the type that is needed of a free part which is to agree with parts of these types: one of theirs, and lgl where none has one
abbrev pub needed : List (Option ColType) → ColType
needed ks = needed_by (first_kind ks)

abbrev pub is_free : Option ColType → Bool
is_free None = true
is_free (Some t) = false

abbrev pub are_free : List (Option ColType) → Bool
are_free ks = is_free (first_kind ks)
