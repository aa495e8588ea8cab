-- What a plan's state tells: the plan, its history so far, and for how many more entries it has room.
use Rattle.std.specs.Prelude.{ℕ, ◌-◌, ◌++◌, List, [], ◌∷◌, map}
use Rattle.std.specs.declared.alloc.Global.{Global}
use Rattle.std.specs.declared.sync.Arc.{Arc}
use Rattle.std.specs.Arc.{arc_value}
use Rattle.row_table.specs.Tables.{TableValue}
use Rattle.plan_store.specs.declared.setting.Setting.{Setting}
use Rattle.scalar_value.specs.declared.value.Value.{Value}
use Rattle.plan_machine.specs.declared.entry.Entry.{Entry}
use Rattle.plan_machine.specs.Lists.{at_or}
use Rattle.plan_machine.specs.Plan.{Plan as MachinePlan}
use Rattle.plan_machine.specs.State.{State}
use Rattle.plan_machine.specs.History.{state_after}
use Rattle.plan_nodes.specs.declared.node.Node.{Node}
use Rattle.plan_nodes.specs.Plans.{Pace, machine_plan, node_at, input_kinds, meaning_at, tables_of, is_kept}
use Rattle.plan_nodes.specs.Kinds.{is_source}
use Rattle.column_batch.specs.Batches.{kinds_of}
use Rattle.task_work.specs.Sites.{Site}

-- what a run is of: its nodes, the rows of its sources in the order of the plan, and its pace
pub record Given : Type 0 where
  pub nodes : List Node
  pub tables : List (List (List Value))
  pub pace : Pace

pub record Told : Type 0 where
  pub given : Given
  pub history : List Entry
  -- for how many more entries there is room, beside those that deliver what is in flight
  pub room : ℕ

abbrev pub pace_of : Setting → Pace
pace_of s = record { batch = s.batch; workers = s.workers; pause = s.pause; resume = s.resume }

abbrev pub rows_of_tables : List (Arc TableValue Global) → List (List (List Value))
rows_of_tables tables = map (λ (t : Arc TableValue Global). (arc_value t).rows) tables

-- what a run of this plan over these tables at this setting is of
abbrev pub given_by : List Node → List (Arc TableValue Global) → Setting → Given
given_by nodes tables setting = record { nodes = nodes; tables = rows_of_tables tables; pace = pace_of setting }

abbrev pub plan_of : Given → MachinePlan (List Value)
plan_of g = machine_plan g.nodes g.tables g.pace

-- the machine's state after the history
abbrev pub state_of : Told → State (List Value)
state_of t = state_after (plan_of t.given) t.history

-- node n as the work at it sees it
unfoldable pub site_of : Given → ℕ → Site
site_of g n =
    record {
      source = is_source (node_at g.nodes n).kind;
      table = at_or [] (n - 1) (tables_of g.nodes g.tables);
      meaning = meaning_at g.nodes g.pace.batch n;
      inputs = input_kinds g.nodes (node_at g.nodes n);
      columns = kinds_of (node_at g.nodes n).schema;
      kept = is_kept (node_at g.nodes n).mark;
      batch = g.pace.batch;
      workers = g.pace.workers;
    }

-- one entry more, with less room or as much
abbrev pub with_entry : Told → Entry → ℕ → Told
with_entry t e used = record t { history = t.history ++ e ∷ []; room = t.room - used }
