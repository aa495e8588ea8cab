-- Every kind of node is lawful, and may stand where a plan puts it.
use Rattle.std.proofs.Common.{◌≡◌, ℕ, Bool, true, false, List, Some, None, refl}
use Rattle.column_batch.specs.Batches.{kinds_of}
use Rattle.row_table.specs.declared.field.Field.{Field}
use Rattle.row_table.specs.declared.table.Mark.{Mark}
use Rattle.row_table.specs.declared.table.Mark.TheVariants.{Unordered}
use Rattle.plan_nodes.specs.declared.node.NodeKind.{NodeKind}
use Rattle.plan_nodes.specs.declared.node.NodeKind.TheVariants.{Source, Filter, Project, Longer, Aggregate, HashJoin, OrderBy, Fetch, Window, Sink}
use Rattle.plan_nodes.specs.Operators.{OpMeaning, first_of, second_of}
use Rattle.plan_nodes.specs.Kinds.{kind_meaning, input_count, is_source, is_sink, asks_order, is_built}
use Rattle.plan_nodes.specs.Plans.{first_mark, mark_by}
use Rattle.plan_nodes.proofs.Lawful.{LawfulMeaning}
use Rattle.plan_nodes.proofs.Filters.{filter-lawful}
use Rattle.plan_nodes.proofs.Projects.{project-lawful}
use Rattle.plan_nodes.proofs.Longers.{longer-lawful}
use Rattle.plan_nodes.proofs.Joins.{join-lawful}
use Rattle.plan_nodes.proofs.Sinks.{sink-lawful}
use Rattle.plan_nodes.proofs.Sources.{source-lawful}
use Rattle.plan_nodes.proofs.Fetches.{fetch-lawful}

-- a join gathers one input and streams the other
abbrev pub is_join : NodeKind → Bool
is_join (Source name) = false
is_join (Filter e) = false
is_join (Project es) = false
is_join (Longer s) = false
is_join (Aggregate s) = false
is_join (HashJoin j) = true
is_join (OrderBy ks) = false
is_join (Fetch offset count) = false
is_join (Window s) = false
is_join Sink = false

-- of a join the rows that it gives have no order; what asks for an order gathers rows whose order is kept
pub kind-lawful : (kind : NodeKind) (inputs : List (List Field)) (batch : ℕ) (gathers gives : Bool) → is_built kind ≡ true → (is_join kind ≡ true → gives ≡ false) → (asks_order kind inputs ≡ true → gathers ≡ true) → LawfulMeaning (kind_meaning kind inputs batch) gathers gives
kind-lawful (Source name) inputs batch gathers gives built loose ordered = source-lawful gathers gives
kind-lawful (Filter e) inputs batch gathers gives built loose ordered = filter-lawful e gathers gives
kind-lawful (Project es) inputs batch gathers gives built loose ordered = project-lawful es (kinds_of (first_of inputs)) gathers gives
kind-lawful (Longer s) inputs batch gathers gives built loose ordered = longer-lawful s (first_of inputs) gathers gives
kind-lawful (Aggregate s) inputs batch gathers gives built loose ordered = absurd (cc)
kind-lawful (HashJoin j) inputs batch gathers true built loose ordered = absurd (let e = loose refl in cc)
kind-lawful (HashJoin j) inputs batch gathers false built loose ordered = join-lawful j (kinds_of (first_of inputs)) (kinds_of (second_of inputs)) batch gathers
kind-lawful (OrderBy ks) inputs batch gathers gives built loose ordered = absurd (cc)
kind-lawful (Fetch offset count) inputs batch true gives built loose ordered = fetch-lawful offset count batch gives
kind-lawful (Fetch offset count) inputs batch false gives built loose ordered = absurd (let e = ordered refl in cc)
kind-lawful (Window s) inputs batch gathers gives built loose ordered = absurd (cc)
kind-lawful Sink inputs batch gathers gives built loose ordered = sink-lawful batch gathers gives

-- What asks for an order has one input and streams nothing.
pub kind-asks : (kind : NodeKind) (inputs : List (List Field)) (batch : ℕ) → asks_order kind inputs ≡ true → (is_source kind ≡ false) × (is_join kind ≡ false) × ((kind_meaning kind inputs batch).shape.streams ≡ false)
kind-asks (Source name) inputs batch asks = absurd (cc)
kind-asks (Filter e) inputs batch asks = absurd (cc)
kind-asks (Project es) inputs batch asks = absurd (cc)
kind-asks (Longer s) inputs batch asks = absurd (cc)
kind-asks (Aggregate s) inputs batch asks = (refl, refl, refl)
kind-asks (HashJoin j) inputs batch asks = absurd (cc)
kind-asks (OrderBy ks) inputs batch asks = (refl, refl, refl)
kind-asks (Fetch offset count) inputs batch asks = (refl, refl, refl)
kind-asks (Window s) inputs batch asks = (refl, refl, refl)
kind-asks Sink inputs batch asks = absurd (cc)

-- What wants to see only some rows gathers its input and asks for its order.
pub kind-wants : (kind : NodeKind) (inputs : List (List Field)) (batch n : ℕ) → (kind_meaning kind inputs batch).wanted ≡ Some n → ((kind_meaning kind inputs batch).shape.folds ≡ true) × (asks_order kind inputs ≡ true)
kind-wants (Source name) inputs batch n wants = absurd (cc)
kind-wants (Filter e) inputs batch n wants = absurd (cc)
kind-wants (Project es) inputs batch n wants = absurd (cc)
kind-wants (Longer s) inputs batch n wants = absurd (cc)
kind-wants (Aggregate s) inputs batch n wants = absurd (cc)
kind-wants (HashJoin j) inputs batch n wants = absurd (cc)
kind-wants (OrderBy ks) inputs batch n wants = absurd (cc)
kind-wants (Fetch offset count) inputs batch n wants = (refl, refl)
kind-wants (Window s) inputs batch n wants = absurd (cc)
kind-wants Sink inputs batch n wants = absurd (cc)

abbrev pub KeepsMark : NodeKind → Type 0
KeepsMark kind = (marks : List Mark) → mark_by kind marks ≡ first_mark marks

abbrev pub HasNoMark : NodeKind → Type 0
HasNoMark kind = (marks : List Mark) → mark_by kind marks ≡ Unordered

-- What its place asks of a kind and of what it computes.
pub record FitKind (kind : NodeKind) (m : OpMeaning) : Type 0 where
  pub one : is_source kind ≡ false → is_join kind ≡ false → input_count kind ≡ 1
  pub two : is_join kind ≡ true → input_count kind ≡ 2
  pub streams : is_source kind ≡ false → m.shape.folds ≡ false → (m.shape.tails ≡ false) × KeepsMark kind
  pub joins : m.shape.folds ≡ true → m.shape.streams ≡ true → is_join kind ≡ true
  pub a_join : is_join kind ≡ true → (is_source kind ≡ false) × (m.shape.folds ≡ true) × (m.cuts ≡ true) × HasNoMark kind
  pub gathers : m.shape.folds ≡ true → m.shape.streams ≡ false → is_sink kind ≡ false → m.shape.tails ≡ true
  pub cuts : m.cuts ≡ true → is_join kind ≡ true
  pub sinks : is_sink kind ≡ true → (is_source kind ≡ false) × (is_join kind ≡ false) × (m.shape.folds ≡ true) × (m.shape.streams ≡ false) × (m.shape.tails ≡ false) × KeepsMark kind × (m.wanted ≡ None)

pub kind-fit : (kind : NodeKind) (inputs : List (List Field)) (batch : ℕ) → FitKind kind (kind_meaning kind inputs batch)
kind-fit (Source name) inputs batch = record {
  one = λ source join. absurd (cc);
  two = λ join. absurd (cc);
  streams = λ source folds. absurd (cc);
  joins = λ folds streams. absurd (cc);
  a_join = λ join. absurd (cc);
  gathers = λ folds streams sink. absurd (cc);
  cuts = λ cuts. absurd (cc);
  sinks = λ sink. absurd (cc);
}
kind-fit (Filter e) inputs batch = record {
  one = λ source join. refl;
  two = λ join. absurd (cc);
  streams = λ source folds. (refl, λ marks. refl);
  joins = λ folds streams. absurd (cc);
  a_join = λ join. absurd (cc);
  gathers = λ folds streams sink. absurd (cc);
  cuts = λ cuts. absurd (cc);
  sinks = λ sink. absurd (cc);
}
kind-fit (Project es) inputs batch = record {
  one = λ source join. refl;
  two = λ join. absurd (cc);
  streams = λ source folds. (refl, λ marks. refl);
  joins = λ folds streams. absurd (cc);
  a_join = λ join. absurd (cc);
  gathers = λ folds streams sink. absurd (cc);
  cuts = λ cuts. absurd (cc);
  sinks = λ sink. absurd (cc);
}
kind-fit (Longer s) inputs batch = record {
  one = λ source join. refl;
  two = λ join. absurd (cc);
  streams = λ source folds. (refl, λ marks. refl);
  joins = λ folds streams. absurd (cc);
  a_join = λ join. absurd (cc);
  gathers = λ folds streams sink. absurd (cc);
  cuts = λ cuts. absurd (cc);
  sinks = λ sink. absurd (cc);
}
kind-fit (Aggregate s) inputs batch = record {
  one = λ source join. refl;
  two = λ join. absurd (cc);
  streams = λ source folds. absurd (cc);
  joins = λ folds streams. absurd (cc);
  a_join = λ join. absurd (cc);
  gathers = λ folds streams sink. refl;
  cuts = λ cuts. absurd (cc);
  sinks = λ sink. absurd (cc);
}
kind-fit (HashJoin j) inputs batch = record {
  one = λ source join. absurd (cc);
  two = λ join. refl;
  streams = λ source folds. absurd (cc);
  joins = λ folds streams. refl;
  a_join = λ join. (refl, refl, refl, λ marks. refl);
  gathers = λ folds streams sink. absurd (cc);
  cuts = λ cuts. refl;
  sinks = λ sink. absurd (cc);
}
kind-fit (OrderBy ks) inputs batch = record {
  one = λ source join. refl;
  two = λ join. absurd (cc);
  streams = λ source folds. absurd (cc);
  joins = λ folds streams. absurd (cc);
  a_join = λ join. absurd (cc);
  gathers = λ folds streams sink. refl;
  cuts = λ cuts. absurd (cc);
  sinks = λ sink. absurd (cc);
}
kind-fit (Fetch offset count) inputs batch = record {
  one = λ source join. refl;
  two = λ join. absurd (cc);
  streams = λ source folds. absurd (cc);
  joins = λ folds streams. absurd (cc);
  a_join = λ join. absurd (cc);
  gathers = λ folds streams sink. refl;
  cuts = λ cuts. absurd (cc);
  sinks = λ sink. absurd (cc);
}
kind-fit (Window s) inputs batch = record {
  one = λ source join. refl;
  two = λ join. absurd (cc);
  streams = λ source folds. absurd (cc);
  joins = λ folds streams. absurd (cc);
  a_join = λ join. absurd (cc);
  gathers = λ folds streams sink. refl;
  cuts = λ cuts. absurd (cc);
  sinks = λ sink. absurd (cc);
}
kind-fit Sink inputs batch = record {
  one = λ source join. refl;
  two = λ join. absurd (cc);
  streams = λ source folds. absurd (cc);
  joins = λ folds streams. absurd (cc);
  a_join = λ join. absurd (cc);
  gathers = λ folds streams sink. absurd (cc);
  cuts = λ cuts. absurd (cc);
  sinks = λ sink. (refl, refl, refl, refl, refl, λ marks. refl, refl);
}
