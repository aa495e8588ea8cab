-- The laws of plans of nodes: the machine's plan that each is meets what the machine's laws ask.
use Rattle.std.specs.Prelude.{◌≡◌, ℕ, true, List, length}
use Rattle.scalar_value.specs.declared.value.Value.{Value}
use Rattle.na_expr.specs.declared.expr.Expr.{Expr}
use Rattle.row_table.specs.Tables.{TableValue}
use Rattle.plan_machine.specs.WellFormed.{Lawful, WellFormed}
use Rattle.plan_nodes.specs.declared.node.Node.{Node}
use Rattle.plan_nodes.specs.declared.node.NodeKind.TheVariants.{Filter, HashJoin}
use Rattle.plan_nodes.specs.declared.options.JoinSpec.{JoinSpec}
use Rattle.plan_nodes.specs.Operators.{Each}
use Rattle.plan_nodes.specs.Kinds.{has_unmatched}
use Rattle.plan_nodes.specs.Plans.{Pace, IsPace, IsPlan, IsSourceTable, node_at, sources_of, machine_plan}

-- Over all tables and at every pace, the machine's plan of a plan is well formed.
abbrev pub PlansAreWellFormed : Type 0
PlansAreWellFormed =
    (nodes : List Node) (tables : List (List (List Value))) (pace : Pace)
    → IsPlan nodes → IsPace pace → WellFormed (machine_plan nodes tables pace)

-- And each of its nodes is lawful: its rows may be taken batch by batch, by any worker, in any order.
abbrev pub PlansAreLawful : Type 0
PlansAreLawful =
    (nodes : List Node) (tables : List (List (List Value))) (pace : Pace)
    → IsPlan nodes → IsPace pace → Lawful (machine_plan nodes tables pace)

-- What the laws ask can be met: a plan over two tables, with a join that gives rows at its end and with a filter.
pub record IsPlanExample (nodes : List Node) (tables : List TableValue) (pace : Pace) : Type 0 where
  pub plan : IsPlan nodes
  pub paced : IsPace pace
  pub sources : Each IsSourceTable (sources_of nodes) tables
  pub two_sources : length tables ≡ 2
  pub join : ℕ
  pub join_spec : JoinSpec
  pub is_join : (node_at nodes join).kind ≡ HashJoin join_spec
  pub tails : has_unmatched join_spec.kind ≡ true
  pub filter : ℕ
  pub condition : Expr
  pub is_filter : (node_at nodes filter).kind ≡ Filter condition

abbrev pub PlansExist : Type 0
PlansExist = (nodes : List Node) × (tables : List TableValue) × (pace : Pace) × IsPlanExample nodes tables pace
