-- Plans of nodes: what makes one well formed, and the machine's plan that it is.
use Rattle.std.specs.Prelude.{◌≡◌, ℕ, zero, suc, ◌-◌, ◌<◌, ◌≤◌, Bool, true, false, ◌&&◌, ◌||◌, not, nat_eq, cond, List, [], ◌∷◌, length, map, ◌⊎◌, IsTrue, Contains}
use Rattle.std.specs.List.{filter}
use Rattle.scalar_value.specs.declared.value.Value.{Value}
use Rattle.scalar_value.specs.declared.value.ColType.{ColType}
use Rattle.row_table.specs.declared.field.Field.{Field}
use Rattle.row_table.specs.declared.table.Mark.{Mark}
use Rattle.row_table.specs.declared.table.Mark.TheVariants.{Kept, Unordered}
use Rattle.row_table.specs.Tables.{TableValue, fit_rows}
use Rattle.column_batch.specs.Batches.{kinds_of}
use Rattle.plan_machine.specs.Phases.{first_phase_of}
use Rattle.plan_machine.specs.Lists.{at_or}
use Rattle.plan_machine.specs.Plan.{Node as MachineNode, Plan as MachinePlan}
use Rattle.plan_nodes.specs.declared.node.Node.{Node}
use Rattle.plan_nodes.specs.declared.node.NodeKind.{NodeKind}
use Rattle.plan_nodes.specs.declared.node.NodeKind.TheVariants.{Source, Filter, Project, Longer, Aggregate, HashJoin, OrderBy, Fetch, Window, Sink}
use Rattle.plan_nodes.specs.Operators.{OpMeaning}
use Rattle.plan_nodes.specs.Kinds.{kind_meaning, input_count, is_source, is_sink, is_built, asks_order}

-- how a run goes: rows in a batch, workers, how many waiting batches pause an edge, and at how many it goes on
pub record Pace : Type 0 where
  pub batch : ℕ
  pub workers : ℕ
  pub pause : ℕ
  pub resume : ℕ

-- A batch has a row and there is a worker; an edge goes on at no more batches than pause it.
pub record IsPace (pace : Pace) : Type 0 where
  pub batch : 1 ≤ pace.batch
  pub workers : 1 ≤ pace.workers
  pub resume : pace.resume ≤ pace.pause

-- ---- marks

abbrev pub is_kept : Mark → Bool
is_kept Kept = true
is_kept Unordered = false

abbrev pub first_mark : List Mark → Mark
first_mark [] = Unordered
first_mark (m ∷ ms) = m

-- The mark of a node by those of its inputs: an order_by has an order, an aggregate and a hashjoin have none, and every
-- other kind keeps that of its one input.
abbrev pub mark_by : NodeKind → List Mark → Mark
mark_by (Source name) marks = first_mark marks
mark_by (Filter e) marks = first_mark marks
mark_by (Project es) marks = first_mark marks
mark_by (Longer s) marks = first_mark marks
mark_by (Aggregate s) marks = Unordered
mark_by (HashJoin j) marks = Unordered
mark_by (OrderBy ks) marks = Kept
mark_by (Fetch offset count) marks = first_mark marks
mark_by (Window s) marks = first_mark marks
mark_by Sink marks = first_mark marks

-- ---- nodes by their number

-- beyond the plan
abbrev pub no_node : Node
no_node = record { kind = Sink; inputs = []; mark = Unordered; schema = [] }

-- node n, counted from 1
abbrev pub node_at : List Node → ℕ → Node
node_at nodes zero = no_node
node_at nodes (suc k) = at_or no_node k nodes

-- its inputs' columns, their types, and marks
abbrev pub input_schemas : List Node → Node → List (List Field)
input_schemas nodes v = map (λ e. (node_at nodes e).schema) v.inputs

abbrev pub input_kinds : List Node → Node → List (List ColType)
input_kinds nodes v = map (λ e. kinds_of (node_at nodes e).schema) v.inputs

abbrev pub input_marks : List Node → Node → List Mark
input_marks nodes v = map (λ e. (node_at nodes e).mark) v.inputs

-- what node n computes
abbrev pub meaning_at : List Node → ℕ → ℕ → OpMeaning
meaning_at nodes batch n = kind_meaning (node_at nodes n).kind (input_schemas nodes (node_at nodes n)) batch

abbrev pub among : ℕ → List ℕ → Bool
among e [] = false
among e (x ∷ xs) = nat_eq x e || among e xs

-- no number stands there twice
abbrev pub are_apart : List ℕ → Bool
are_apart [] = true
are_apart (x ∷ xs) = not (among x xs) && are_apart xs

-- The first node, counted on from k, that has e as an input; the one behind the last where none has.
abbrev pub user_from : ℕ → List Node → ℕ → ℕ
user_from k [] e = k
user_from k (v ∷ vs) e = cond (among e v.inputs) k (user_from (suc k) vs e)

abbrev pub user_of : List Node → ℕ → ℕ
user_of nodes e = user_from 1 nodes e

-- ---- well-formed plans

-- A node in its place: its inputs stand before it and have it as their user, no two of them are one node, and they are
-- as many as its kind takes;
-- its columns and expressions have types over the inputs' columns, and its own columns are those that it gives then;
-- its mark is that of its kind, or Unordered; its input has an order where it asks for one; and its kind is built.
pub record IsNodeOf (nodes : List Node) (n : ℕ) (v : Node) : Type 0 where
  pub count : length v.inputs ≡ input_count v.kind
  pub inputs : (e : ℕ) → Contains v.inputs e → (1 ≤ e) × (e < n) × (user_of nodes e ≡ n)
  pub apart : IsTrue (are_apart v.inputs)
  pub fits : IsTrue ((kind_meaning v.kind (input_schemas nodes v) 1).fits (input_kinds nodes v))
  pub columns : is_source v.kind ≡ false → kinds_of v.schema ≡ (kind_meaning v.kind (input_schemas nodes v) 1).columns (input_kinds nodes v)
  pub mark : (is_source v.kind ≡ true) ⊎ ((v.mark ≡ Unordered) ⊎ (v.mark ≡ mark_by v.kind (input_marks nodes v)))
  pub ordered : asks_order v.kind (input_schemas nodes v) ≡ true → first_mark (input_marks nodes v) ≡ Kept
  pub built : is_built v.kind ≡ true

-- Each node stands in its place, the last is a sink and no other is, and each other has a user in the plan.
pub record IsPlan (nodes : List Node) : Type 0 where
  pub placed : (n : ℕ) → 1 ≤ n → n ≤ length nodes → IsNodeOf nodes n (node_at nodes n)
  pub some : 1 ≤ length nodes
  pub last : is_sink (node_at nodes (length nodes)).kind ≡ true
  pub one_sink : (n : ℕ) → 1 ≤ n → n < length nodes → is_sink (node_at nodes n).kind ≡ false
  pub used : (e : ℕ) → 1 ≤ e → e < length nodes → (e < user_of nodes e) × (user_of nodes e ≤ length nodes)

-- the nodes that are sources, in the order of the plan
abbrev pub sources_of : List Node → List Node
sources_of nodes = filter (λ v. is_source v.kind) nodes

-- a source's table has its columns and its mark
abbrev pub IsSourceTable : Node → TableValue → Type 0
IsSourceTable v t = IsTrue (fit_rows v.schema t.rows) × (kinds_of v.schema ≡ kinds_of t.schema) × (v.mark ≡ t.mark)

-- ---- the machine's plan

-- the rows of each node's table: of a source the next of the tables, of any other node none
abbrev pub tables_of : List Node → List (List (List Value)) → List (List (List Value))
tables_of [] tables = []
tables_of (v ∷ vs) [] = [] ∷ tables_of vs []
tables_of (v ∷ vs) (t ∷ ts) = cond (is_source v.kind) (t ∷ tables_of vs ts) ([] ∷ tables_of vs (t ∷ ts))

abbrev pub input_at : List ℕ → ℕ → ℕ
input_at inputs k = at_or 0 k inputs

abbrev pub machine_node : Node → OpMeaning → List (List Value) → MachineNode (List Value)
machine_node v m rows =
    record {
      start = first_phase_of (is_source v.kind) m.shape;
      table = rows;
      streams = m.shape.streams;
      tails = m.shape.tails;
      cuts = m.cuts;
      kept = is_kept v.mark;
      wanted = m.wanted;
      first = input_at v.inputs 0;
      second = input_at v.inputs 1;
      part = m.part;
      rest = m.rest;
    }

-- node n of the machine's plan
unfoldable pub machine_node_at : List Node → List (List (List Value)) → ℕ → ℕ → MachineNode (List Value)
machine_node_at nodes tables batch n = machine_node (node_at nodes n) (meaning_at nodes batch n) (at_or [] (n - 1) (tables_of nodes tables))

-- the plan over these tables, at this pace
abbrev pub machine_plan : List Node → List (List (List Value)) → Pace → MachinePlan (List Value)
machine_plan nodes tables pace =
    record {
      node = machine_node_at nodes tables pace.batch;
      sink = length nodes;
      user = user_of nodes;
      batch = pace.batch;
      workers = pace.workers;
      pause = pace.pause;
      resume = pace.resume;
    }
