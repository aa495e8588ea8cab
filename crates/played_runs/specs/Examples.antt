-- The plans that the tests play.
use Rattle.std.specs.Prelude.{ℕ, List, [], ◌∷◌, false}
use Rattle.scalar_value.specs.declared.value.ColType.TheVariants as type
use Rattle.row_table.specs.declared.field.Field.{Field}
use Rattle.row_table.specs.declared.table.Mark.TheVariants.{Kept, Unordered}
use Rattle.row_table.specs.declared.join.JoinKind.TheVariants.{Full}
use Rattle.na_expr.specs.declared.expr.Expr.TheVariants.{Col}
use Rattle.plan_nodes.specs.declared.node.Node.{Node}
use Rattle.plan_nodes.specs.declared.node.NodeKind.{NodeKind}
use Rattle.plan_nodes.specs.declared.node.NodeKind.TheVariants.{Source, Filter, HashJoin, Fetch, Sink}
use Rattle.plan_nodes.specs.declared.options.JoinSpec.{JoinSpec}

abbrev pub left_schema : List Field
left_schema = record { name = 97 ∷ []; kind = type.Int } ∷ []

abbrev pub right_schema : List Field
right_schema = record { name = 98 ∷ []; kind = type.Int } ∷ record { name = 102 ∷ []; kind = type.Lgl } ∷ []

abbrev pub joined_schema : List Field
joined_schema = record { name = 97 ∷ []; kind = type.Int } ∷ record { name = 98 ∷ []; kind = type.Int } ∷ record { name = 102 ∷ []; kind = type.Lgl } ∷ []

abbrev pub full_join : JoinSpec
full_join = record { kind = Full; left_keys = 0 ∷ []; right_keys = 0 ∷ []; na_match = false }

-- the rows of two tables by their first columns, those whose flag is TRUE, and the sink
abbrev pub join_nodes : List Node
join_nodes =
    record { kind = Source (120 ∷ []); inputs = []; mark = Kept; schema = left_schema }
    ∷ record { kind = Source (121 ∷ []); inputs = []; mark = Kept; schema = right_schema }
    ∷ record { kind = HashJoin full_join; inputs = 1 ∷ 2 ∷ []; mark = Unordered; schema = joined_schema }
    ∷ record { kind = Filter (Col 2); inputs = 3 ∷ []; mark = Unordered; schema = joined_schema }
    ∷ record { kind = Sink; inputs = 4 ∷ []; mark = Unordered; schema = joined_schema }
    ∷ []

-- so many rows of a table behind the first ones, and the sink
abbrev pub fetch_nodes : ℕ → ℕ → List Node
fetch_nodes offset count =
    record { kind = Source (120 ∷ []); inputs = []; mark = Kept; schema = left_schema }
    ∷ record { kind = Fetch offset count; inputs = 1 ∷ []; mark = Kept; schema = left_schema }
    ∷ record { kind = Sink; inputs = 2 ∷ []; mark = Kept; schema = left_schema }
    ∷ []
