-- The tests' step stands behind its columns.
use Rattle.std.proofs.Common.{◌≡◌, List, Ok, refl, sym, ap, subst, ◌∙◌}
use Rattle.scalar_value.specs.declared.value.ColType.TheVariants as type
use Rattle.row_table.specs.declared.field.Field.{Field}
use Rattle.na_expr.specs.declared.expr.Expr.{Expr}
use Rattle.na_expr.specs.Types.{typed}
use Rattle.plan_nodes.specs.declared.node.NodeKind.TheVariants.{Filter}
use Rattle.plan_nodes.specs.Kinds.{is_condition}
use Rattle.chain_plans.specs.Chains.{IsStep}
use Rattle.stream_ops.proofs.Projected.{typed-unnamed}

pub condition_step : (schema columns : List Field) (e : Expr) → typed schema e ≡ Ok type.Lgl → columns ≡ schema → IsStep schema (record { kind = Filter e; schema = columns })
condition_step schema columns e h same =
    subst (λ f. IsStep schema (record { kind = Filter e; schema = f })) (sym same)
    (record { streams = refl; fits = ap is_condition (sym (typed-unnamed schema e) ∙ h); columns = refl })
