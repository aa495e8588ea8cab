-- The tests' expressions have types over the tests' columns.
use Rattle.std.proofs.Common.{◌≡◌, true, ◌&&◌, List, [], ◌∷◌, Result, Ok, refl, sym, ◌∙◌, ap, ap₂, IsTrue}
use Rattle.std.specs.Prelude.{pos}
use Rattle.scalar_value.specs.declared.value.Value.TheVariants as cell
use Rattle.scalar_value.specs.declared.value.ColType.{ColType}
use Rattle.scalar_value.specs.declared.value.ColType.TheVariants as type
use Rattle.row_table.specs.declared.field.Field.{Field}
use Rattle.na_expr.specs.declared.expr.Expr.{Expr}
use Rattle.na_expr.specs.declared.expr.Expr.TheVariants as expr
use Rattle.na_expr.specs.declared.expr.Expr.TheVariants.{rolls-Col, rolls-Lit}
use Rattle.na_expr.specs.declared.expr.Expr.TheOpen.{Col, Lit}
use Rattle.na_expr.specs.declared.expr.Expr.TheFolds.{fold-roll-Expr}
use Rattle.na_expr.specs.declared.expr.TypeFault.{TypeFault}
use Rattle.na_expr.specs.Types.{step_type, typed}
use Rattle.column_batch.specs.Batches.{kinds_of}
use Rattle.plan_nodes.specs.Kinds.{unnamed, is_condition, is_ok, filter_meaning, project_meaning}
use Rattle.stream_ops.proofs.Projected.{both-true}

abbrev pub kinds : List ColType
kinds = type.Int ∷ type.Lgl ∷ []

abbrev pub schema : List Field
schema = record { name = 110 ∷ []; kind = type.Int } ∷ record { name = 116 ∷ []; kind = type.Lgl } ∷ []

abbrev pub list : List Expr
list = expr.Col 1 ∷ expr.Lit (cell.Int (pos 7)) type.Int ∷ expr.Col 0 ∷ []

second : typed (unnamed kinds) (expr.Col 1) ≡ Ok type.Lgl
second = ap (typed (unnamed kinds)) (sym (rolls-Col 1)) ∙ fold-roll-Expr (Result ColType TypeFault) (step_type (unnamed kinds)) (Col 1)

seven : typed (unnamed kinds) (expr.Lit (cell.Int (pos 7)) type.Int) ≡ Ok type.Int
seven = ap (typed (unnamed kinds)) (sym (rolls-Lit (cell.Int (pos 7)) type.Int)) ∙ fold-roll-Expr (Result ColType TypeFault) (step_type (unnamed kinds)) (Lit (cell.Int (pos 7)) type.Int)

first : typed (unnamed kinds) (expr.Col 0) ≡ Ok type.Int
first = ap (typed (unnamed kinds)) (sym (rolls-Col 0)) ∙ fold-roll-Expr (Result ColType TypeFault) (step_type (unnamed kinds)) (Col 0)

pub filter-fits : IsTrue ((filter_meaning (expr.Col 1)).fits (kinds ∷ []))
filter-fits = ap is_condition second

list-fits : IsTrue ((project_meaning list (kinds_of schema)).fits (kinds ∷ []))
list-fits =
    let rest = both-true (is_ok (typed (unnamed kinds) (expr.Col 0))) true (ap is_ok first) refl in
    let more = both-true (is_ok (typed (unnamed kinds) (expr.Lit (cell.Int (pos 7)) type.Int))) (is_ok (typed (unnamed kinds) (expr.Col 0)) && true) (ap is_ok seven) rest in
    both-true (is_ok (typed (unnamed kinds) (expr.Col 1))) (is_ok (typed (unnamed kinds) (expr.Lit (cell.Int (pos 7)) type.Int)) && (is_ok (typed (unnamed kinds) (expr.Col 0)) && true)) (ap is_ok second) more

pub project-fits : (es : List Expr) (fields : List Field) → es ≡ list → fields ≡ schema → IsTrue ((project_meaning es (kinds_of fields)).fits (kinds ∷ []))
project-fits es fields p q = ap₂ (λ es fields. (project_meaning es (kinds_of fields)).fits (kinds ∷ [])) p q ∙ list-fits
