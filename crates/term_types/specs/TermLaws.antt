-- What the types of terms say of their expressions.
use Rattle.std.specs.Prelude.{◌≡◌, List, Ok}
use Rattle.scalar_value.specs.declared.value.ColType.{ColType}
use Rattle.row_table.specs.declared.field.Field.{Field}
use Rattle.na_expr.specs.declared.expr.Expr.{Expr}
use Rattle.na_expr.specs.Types.{typed}
use Rattle.syntax_tree.specs.declared.tree.Term.{Term}
use Rattle.term_calls.specs.declared.piece.Piece.{Piece}
use Rattle.term_calls.specs.Pieces.{type_as, expr_as}
use Rattle.term_types.specs.Terms.{piece, expression}

-- the expression that a term is read as over these columns has the type that is told with it
abbrev pub TermsAreTyped : Type 0
TermsAreTyped = (schema : List Field) (t : Term) (e : Expr × ColType) → expression schema t ≡ Ok e → typed schema e.0 ≡ Ok e.1

-- the expression of the part that a term is read as has the part's type, whichever type is needed of a free part
abbrev pub TermsAreTypedAs : Type 0
TermsAreTypedAs = (schema : List Field) (t : Term) (p : Piece) (k : ColType) → piece schema t ≡ Ok p → typed schema (expr_as k p) ≡ Ok (type_as k p)
