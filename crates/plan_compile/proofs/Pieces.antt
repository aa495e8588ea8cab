-- The type and the value of each variant of an expression.
use Rattle.std.proofs.Common.{◌≡◌, ℕ, zero, suc, ◌<◌, Bool, true, if◌then◌else◌, List, [], ◌∷◌, length, map, slice_get, Result, Ok, Err, refl, sym, ◌∙◌, ap, arith}
use Rattle.std.proofs.Math.Path.{fun_ext}
use Rattle.scalar_value.specs.declared.value.Value.{Value}
use Rattle.scalar_value.specs.declared.value.ColType.{ColType}
use Rattle.scalar_value.specs.Order.{is_of_type}
use Rattle.row_table.specs.declared.field.Field.{Field}
use Rattle.agg_rules.specs.Windows.{value_at}
use Rattle.na_expr.specs.declared.expr.TypeFault.{TypeFault}
use Rattle.na_expr.specs.declared.expr.TypeFault.TheVariants.{WrongType}
use Rattle.na_expr.specs.declared.expr.ExprFn.{ExprFn}
use Rattle.na_expr.specs.declared.expr.Expr.{Expr}
use Rattle.na_expr.specs.declared.expr.Expr.TheOpen as layer
use Rattle.na_expr.specs.declared.expr.Expr.TheOpen.{Expr-F}
use Rattle.na_expr.specs.declared.expr.Expr.TheVariants.{Col, Lit, Call, rolls-Col, rolls-Lit, rolls-Call}
use Rattle.na_expr.specs.declared.expr.Expr.TheFolds.{fold-Expr, fold-roll-Expr}
use Rattle.na_expr.specs.Evaluation.{val, step_value, call_value}
use Rattle.na_expr.specs.Types.{typed, step_type, takes, call_type, all_of, column_type}
use Rattle.column_batch.specs.Batches.{kinds_of}
use Rattle.plan_nodes.specs.Kinds.{unnamed}
use Rattle.verb_forms.specs.Columns.{kind_at}

column_kind : (schema : List Field) (at : ℕ) → at < length schema → column_type (slice_get schema at) ≡ Ok (kind_at schema at)
column_kind [] at h = absurd (omega arith)
column_kind (f ∷ fs) zero h = refl
column_kind (f ∷ fs) (suc at) h = column_kind fs at (omega arith)

pub typed_column : (schema : List Field) (at : ℕ) → at < length schema → typed schema (Col at) ≡ Ok (kind_at schema at)
typed_column schema at h = ap (typed schema) (sym (rolls-Col at)) ∙ fold-roll-Expr (Result ColType TypeFault) (step_type schema) (layer.Col at) ∙ column_kind schema at h

pub typed_literal : (schema : List Field) (v : Value) (t : ColType) → is_of_type t v ≡ true → typed schema (Lit v t) ≡ Ok t
typed_literal schema v t h =
    ap (typed schema) (sym (rolls-Lit v t)) ∙ (fold-roll-Expr (Result ColType TypeFault) (step_type schema) (layer.Lit v t) ∙ ap (λ (b : Bool). if b then Ok t else Err WrongType) h)

pub typed_call : (schema : List Field) (f : ExprFn) (es : List Expr) → typed schema (Call f es) ≡ call_type (takes f) (all_of (map (typed schema) es))
typed_call schema f es = ap (typed schema) (sym (rolls-Call f es)) ∙ fold-roll-Expr (Result ColType TypeFault) (step_type schema) (layer.Call f es)

pub value_column : (row : List Value) (at : ℕ) → val row (Col at) ≡ value_at row at
value_column row at = ap (val row) (sym (rolls-Col at)) ∙ fold-roll-Expr Value (step_value row) (layer.Col at)

pub value_literal : (row : List Value) (v : Value) (t : ColType) → val row (Lit v t) ≡ v
value_literal row v t = ap (val row) (sym (rolls-Lit v t)) ∙ fold-roll-Expr Value (step_value row) (layer.Lit v t)

pub value_call : (row : List Value) (f : ExprFn) (es : List Expr) → val row (Call f es) ≡ call_value f (map (val row) es)
value_call row f es = ap (val row) (sym (rolls-Call f es)) ∙ fold-roll-Expr Value (step_value row) (layer.Call f es)

-- the type of an expression follows from the types of the columns, whatever their names are
column_unnamed : (schema : List Field) (at : ℕ) → column_type (slice_get schema at) ≡ column_type (slice_get (unnamed (kinds_of schema)) at)
column_unnamed [] at = refl
column_unnamed (f ∷ fs) zero = refl
column_unnamed (f ∷ fs) (suc at) = column_unnamed fs at

step_unnamed : (schema : List Field) (x : Expr-F (Result ColType TypeFault)) → step_type schema x ≡ step_type (unnamed (kinds_of schema)) x
step_unnamed schema (layer.Col at) = column_unnamed schema at
step_unnamed schema (layer.Lit v t) = refl
step_unnamed schema (layer.Call f parts) = refl

pub typed_unnamed : (schema : List Field) (e : Expr) → typed schema e ≡ typed (unnamed (kinds_of schema)) e
typed_unnamed schema e = ap (λ step. fold-Expr (Result ColType TypeFault) step e) (fun_ext (step_unnamed schema))
