-- How many rows, and how many batches, each node of a plan gives at most.
use Rattle.std.specs.Prelude.{ℕ, zero, suc, ◌+◌, ◌-◌, ◌*◌, List, [], length}
use Rattle.scalar_value.specs.declared.value.Value.{Value}
use Rattle.plan_machine.specs.Batch.{parts}
use Rattle.plan_machine.specs.Lists.{at_or}
use Rattle.plan_machine.specs.Budget.{most}
use Rattle.plan_nodes.specs.declared.node.Node.{Node}
use Rattle.plan_nodes.specs.declared.node.NodeKind.{NodeKind}
use Rattle.plan_nodes.specs.declared.node.NodeKind.TheVariants.{Source, Filter, Project, Longer, Aggregate, HashJoin, OrderBy, Fetch, Window, Sink}
use Rattle.plan_nodes.specs.Plans.{Pace, node_at, input_at, tables_of, machine_plan}
pub use Rattle.plan_bounds.specs.declared.computed.Bound.{Bound}

abbrev pub nothing : Bound
nothing = record { rows = 0; batches = 0 }

-- a table in batches of `batch` rows
abbrev pub of_table : ℕ → List (List Value) → Bound
of_table batch table = record { rows = length table; batches = parts batch table }

-- A hashjoin gives at most a row for each left row with each right row or with none, and one for each right row; and a batch
-- for each batch of its first input, and one for each row.
abbrev pub of_join : Bound → Bound → Bound
of_join x y = let rows = x.rows * (y.rows + 1) + y.rows in record { rows = rows; batches = x.batches + rows }

-- at most so many rows, and at most one batch for each
abbrev pub of_rows : ℕ → Bound
of_rows rows = record { rows = rows; batches = rows }

-- What a node gives, by its table and by what its inputs give: a source its table; a filter and a project as much as their
-- input; a longer a row for each chosen column of each row; an aggregate a row for each row, or one where there is none; an
-- order_by, a fetch and a window no more rows than they gather; the sink gives nothing on.
abbrev pub of_kind : NodeKind → Bound → Bound → Bound → Bound
of_kind (Source name) table x y = table
of_kind (Filter e) table x y = x
of_kind (Project es) table x y = x
of_kind (Longer s) table x y = record { rows = x.rows * length s.chosen; batches = x.batches }
of_kind (Aggregate s) table x y = of_rows (x.rows + 1)
of_kind (HashJoin j) table x y = of_join x y
of_kind (OrderBy ks) table x y = of_rows x.rows
of_kind (Fetch offset count) table x y = of_rows x.rows
of_kind (Window s) table x y = of_rows x.rows
of_kind Sink table x y = nothing

module _ (nodes : List Node) (tables : List (List (List Value))) (batch : ℕ) where
  -- the rows of node n's table, which only a source has
  abbrev pub table_at : ℕ → List (List Value)
  table_at n = at_or [] (n - 1) (tables_of nodes tables)

  -- what node n gives, with at most k nodes on the way from a source to it
  unfoldable pub bound_within : ℕ → ℕ → Bound
  bound_within zero n = nothing
  bound_within (suc k) n =
      of_kind (node_at nodes n).kind (of_table batch (table_at n))
      (bound_within k (input_at (node_at nodes n).inputs 0)) (bound_within k (input_at (node_at nodes n).inputs 1))

  -- The rows and the batches that node n gives. As inputs stand before their user, n nodes on the way are enough.
  abbrev pub rows_bound : ℕ → ℕ
  rows_bound n = (bound_within n n).rows

  abbrev pub batches_bound : ℕ → ℕ
  batches_bound n = (bound_within n n).batches

-- how many entries a run has: the sum of ten for each batch, and eight, over all nodes
abbrev pub most_entries : List Node → List (List (List Value)) → Pace → ℕ
most_entries nodes tables pace = most (machine_plan nodes tables pace) (batches_bound nodes tables pace.batch)
