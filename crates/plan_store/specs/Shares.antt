-- Shares of a node as a run begins.
use Rattle.std.specs.Prelude.{◌≡◌, ℕ, suc, ◌-◌, ◌<◌, true, false, List, [], length, Option, Some, None, slice_index_or}
use Rattle.std.specs.Arc.{arc_value}
use Rattle.scalar_value.specs.declared.value.Value.{Value}
use Rattle.scalar_value.specs.declared.value.ColType.{ColType}
use Rattle.row_table.specs.Tables.{TableValue}
use Rattle.plan_machine.specs.Batch.{Batch}
use Rattle.plan_machine.specs.Lists.{at_or}
use Rattle.plan_nodes.specs.declared.node.Node.{Node}
use Rattle.plan_nodes.specs.Kinds.{is_source}
use Rattle.plan_nodes.specs.Plans.{IsSourceTable, node_at, meaning_at, tables_of}
use Rattle.plan_nodes.specs.Operators.{OpMeaning}
use Rattle.task_work.specs.declared.work.Part.{Part}
use Rattle.task_work.specs.declared.work.Share.{Share}
use Rattle.task_work.specs.declared.work.Share.TheVariants as share

module _ {O S L : Type 0}
    (meaning : O → OpMeaning)
    (local_is : OpMeaning → List ColType → L → List (Batch (List Value)) → Type 0)
    (shared_is : OpMeaning → List (List ColType) → S → List (List Value) → List (Batch (List Value)) → Type 0)
  where
    -- a share of this table
    abbrev pub IsTableShare : TableValue → Option (Share O S L) → Type 0
    IsTableShare table None = ⊥
    IsTableShare table (Some (share.Table t)) = arc_value t ≡ table
    IsTableShare table (Some (share.Part p)) = ⊥

    -- a part of this operator, in which nothing was gathered, streamed or taken
    pub record IsFreshPart (op : O) (p : Part O S L) : Type 0 where
      pub operator : arc_value p.op ≡ op
      pub shared : (inputs : List (List ColType)) → shared_is (meaning op) inputs (arc_value p.shared) [] []
      pub local : (kinds : List ColType) → local_is (meaning op) kinds p.local []

    abbrev pub IsPartShare : O → Option (Share O S L) → Type 0
    IsPartShare op None = ⊥
    IsPartShare op (Some (share.Table t)) = ⊥
    IsPartShare op (Some (share.Part p)) = IsFreshPart op p

    -- The row of node n as the run begins: a share for each worker, of the source's table or of the node's operator.
    pub record RowOpens (nodes : List Node) (tables : List (List (List Value))) (batch workers n : ℕ) (row : List (Option (Share O S L))) : Type 0 where
      pub size : length row ≡ workers
      pub source : is_source (node_at nodes n).kind ≡ true → (t : TableValue) × IsSourceTable (node_at nodes n) t × (t.rows ≡ at_or [] (n - 1) (tables_of nodes tables))
          × ((k : ℕ) → k < workers → IsTableShare t (slice_index_or row k None))
      pub other : is_source (node_at nodes n).kind ≡ false → (op : O) × (meaning op ≡ meaning_at nodes batch n) × ((k : ℕ) → k < workers → IsPartShare op (slice_index_or row k None))

    -- the rows of all nodes
    pub record RowsOpen (nodes : List Node) (tables : List (List (List Value))) (batch workers : ℕ) (rows : List (List (Option (Share O S L)))) : Type 0 where
      pub size : length rows ≡ length nodes
      pub each : (k : ℕ) (d : List (Option (Share O S L))) → k < length nodes → RowOpens nodes tables batch workers (suc k) (slice_index_or rows k d)
