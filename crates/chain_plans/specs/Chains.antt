-- Plans of one path: the rows of a table go through filters and projects, one after another, to the sink.
use Rattle.std.specs.Prelude.{◌≡◌, ℕ, suc, Bool, true, false, IsTrue, List, [], ◌∷◌}
use Rattle.scalar_value.specs.declared.value.Value.{Value}
use Rattle.row_table.specs.declared.field.Field.{Field}
use Rattle.row_table.specs.declared.table.Mark.{Mark}
use Rattle.column_batch.specs.Batches.{kinds_of}
use Rattle.plan_nodes.specs.declared.node.Node.{Node}
use Rattle.plan_nodes.specs.declared.node.NodeKind.{NodeKind}
use Rattle.plan_nodes.specs.declared.node.NodeKind.TheVariants.{Source, Filter, Project, Longer, Aggregate, HashJoin, OrderBy, Fetch, Window, Sink}
use Rattle.plan_nodes.specs.Kinds.{filtered, projected, kind_meaning}
use Rattle.chain_plans.specs.declared.nodes.Step.{Step}

-- a filter or a project
abbrev pub is_streaming : NodeKind → Bool
is_streaming (Source name) = false
is_streaming (Filter e) = true
is_streaming (Project es) = true
is_streaming (Longer s) = false
is_streaming (Aggregate s) = false
is_streaming (HashJoin j) = false
is_streaming (OrderBy ks) = false
is_streaming (Fetch offset count) = false
is_streaming (Window s) = false
is_streaming Sink = false

-- A step behind these columns: its expressions have types over them, and its own columns are those that it gives.
pub record IsStep (schema : List Field) (s : Step) : Type 0 where
  pub streams : is_streaming s.kind ≡ true
  pub fits : IsTrue ((kind_meaning s.kind (schema ∷ []) 1).fits (kinds_of schema ∷ []))
  pub columns : kinds_of s.schema ≡ (kind_meaning s.kind (schema ∷ []) 1).columns (kinds_of schema ∷ [])

-- each step stands behind the columns that the one before it gives
abbrev pub AreSteps : List Field → List Step → Type 0
AreSteps schema [] = Unit {0}
AreSteps schema (s ∷ steps) = IsStep schema s × AreSteps s.schema steps

-- the steps' nodes behind node k, and the sink
abbrev pub nodes_behind : Mark → ℕ → List Field → List Step → List Node
nodes_behind mark k schema [] = record { kind = Sink; inputs = k ∷ []; mark = mark; schema = schema } ∷ []
nodes_behind mark k schema (s ∷ steps) = record { kind = s.kind; inputs = k ∷ []; mark = mark; schema = s.schema } ∷ nodes_behind mark (suc k) s.schema steps

-- the source of the table of this name, the steps, and the sink
abbrev pub chain_nodes : List ℕ → Mark → List Field → List Step → List Node
chain_nodes name mark schema steps = record { kind = Source name; inputs = []; mark = mark; schema = schema } ∷ nodes_behind mark 1 schema steps

-- the rows that a step gives
abbrev pub step_rows : NodeKind → List (List Value) → List (List Value)
step_rows (Source name) rows = rows
step_rows (Filter e) rows = filtered e rows
step_rows (Project es) rows = projected es rows
step_rows (Longer s) rows = rows
step_rows (Aggregate s) rows = rows
step_rows (HashJoin j) rows = rows
step_rows (OrderBy ks) rows = rows
step_rows (Fetch offset count) rows = rows
step_rows (Window s) rows = rows
step_rows Sink rows = rows

-- and that all steps give, one after another
abbrev pub chain_rows : List Step → List (List Value) → List (List Value)
chain_rows [] rows = rows
chain_rows (s ∷ steps) rows = chain_rows steps (step_rows s.kind rows)
