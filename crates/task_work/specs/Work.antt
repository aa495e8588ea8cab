-- What a task in flight holds, and what its worker gives back: in the terms of the plan machine.
use Rattle.std.specs.Prelude.{◌≡◌, ℕ, ◌<◌, ◌≤◌, Bool, true, false, IsTrue, List, [], ◌∷◌, ◌++◌, length, Option, Some, None, ◌⊎◌}
use Rattle.std.specs.declared.alloc.Global.{Global}
use Rattle.std.specs.declared.sync.Arc.{Arc}
use Rattle.std.specs.Arc.{arc_value}
use Rattle.scalar_value.specs.declared.value.Value.{Value}
use Rattle.scalar_value.specs.declared.value.ColType.{ColType}
use Rattle.row_table.specs.Tables.{TableValue}
use Rattle.column_batch.specs.Batches.{BatchValue, kinds_of}
use Rattle.plan_machine.specs.declared.entry.Job.TheVariants as job
use Rattle.plan_machine.specs.Batch.{Batch, gathered, key, marked, piece, parts}
use Rattle.plan_machine.specs.State.{Task}
use Rattle.plan_nodes.specs.Operators.{OpMeaning, Ends, item, first_of, folded_of, sent_rows, next_from, end_count, end_part, Each, flat}
use Rattle.task_work.specs.Sites.{Site}
use Rattle.task_work.specs.declared.work.Part.{Part}
use Rattle.task_work.specs.declared.work.Share.{Share}
use Rattle.task_work.specs.declared.work.Share.TheVariants as share
use Rattle.task_work.specs.declared.work.Work.{Work}
use Rattle.task_work.specs.declared.work.Work.TheVariants as work
use Rattle.task_work.specs.declared.work.Fruit.{Fruit}
use Rattle.task_work.specs.declared.work.Fruit.TheVariants as fruit
use Rattle.task_work.specs.declared.work.Waiting.{Waiting}

module _ {O S L : Type 0}
    -- what an operator computes, and what a local and a shared part stand for
    (meaning : O → OpMeaning)
    (local_is : OpMeaning → List ColType → L → List (Batch (List Value)) → Type 0)
    (shared_is : OpMeaning → List (List ColType) → S → List (List Value) → List (Batch (List Value)) → Type 0)
    (v : Site)
  where
    -- a share of the source's table
    pub record IsTable (t : Arc TableValue Global) : Type 0 where
      pub source : v.source ≡ true
      pub rows : (arc_value t).rows ≡ v.table
      pub columns : kinds_of (arc_value t).schema ≡ v.columns

    -- shares of the node's operator and of what it gathered and streamed
    pub record IsShared (built : List (List Value)) (streamed : List (Batch (List Value))) (p : Part O S L) : Type 0 where
      pub source : v.source ≡ false
      pub op : meaning (arc_value p.op) ≡ v.meaning
      pub fits : IsTrue (v.meaning.fits v.inputs)
      pub columns : v.columns ≡ v.meaning.columns v.inputs
      pub shared : shared_is v.meaning v.inputs (arc_value p.shared) built streamed

    -- these, with a local part that stands for the batches, of columns of these types, that the worker took
    pub record IsPart (kinds : List ColType) (taken : List (Batch (List Value))) (built : List (List Value)) (streamed : List (Batch (List Value))) (p : Part O S L) : Type 0 where
      pub is_shared : IsShared built streamed p
      pub local : local_is v.meaning kinds p.local taken

    abbrev pub IsPartOf : List ColType → List (List Value) → List (Batch (List Value)) → Option (Share O S L) → List (Batch (List Value)) → Type 0
    IsPartOf kinds built streamed None taken = ⊥
    IsPartOf kinds built streamed (Some (share.Table t)) taken = ⊥
    IsPartOf kinds built streamed (Some (share.Part p)) taken = IsPart kinds taken built streamed p

    -- the parts of all workers, whose batches one worker after another are these
    pub record IsRow (kinds : List ColType) (taken : List (Batch (List Value))) (built : List (List Value)) (streamed : List (Batch (List Value))) (row : List (Option (Share O S L))) : Type 0 where
      pub lists : List (List (Batch (List Value)))
      pub parts : Each (IsPartOf kinds built streamed) row lists
      pub all : flat lists ≡ taken
      pub workers : length row ≡ v.workers

    -- ---- what a task takes with it
    -- a batch of the gathered input, and one of the streamed input
    pub record IsFolded (t : Task (List Value)) (b : BatchValue) : Type 0 where
      pub folds : v.meaning.shape.folds ≡ true
      pub batch : t.batch ≡ item b 0
      pub columns : b.kinds ≡ folded_of v.meaning v.inputs

    pub record IsStreamed (t : Task (List Value)) (b : BatchValue) (from : ℕ) : Type 0 where
      pub streams : v.meaning.shape.streams ≡ true
      pub batch : t.batch ≡ item b from
      pub columns : b.kinds ≡ first_of v.inputs
      pub starts : (v.meaning.cuts ≡ true) ⊎ (from ≡ 0)

    abbrev pub IsWork : Task (List Value) → Work O S L → Type 0
    IsWork t (work.Emit table number) = (t.job ≡ job.Emit) × IsTable table × (number ≡ t.number) × (number < parts v.batch v.table)
    IsWork t (work.Fold part batch) = (t.job ≡ job.Fold) × IsPart (folded_of v.meaning v.inputs) t.took t.built [] part × IsFolded t batch
    IsWork t (work.Seal row) = (t.job ≡ job.Seal) × IsRow (folded_of v.meaning v.inputs) t.took t.built [] row.items × (1 ≤ v.workers) × (v.meaning.shape.folds ≡ true)
    IsWork t (work.Stream part batch from) = (t.job ≡ job.Stream) × IsPart (first_of v.inputs) t.took t.built [] part × IsStreamed t batch from
    IsWork t (work.Close row) = (t.job ≡ job.Close) × IsRow (first_of v.inputs) t.took t.built [] row.items × (1 ≤ v.workers) × (v.meaning.shape.streams ≡ true) × (v.meaning.shape.tails ≡ true)
    IsWork t (work.Tail part number) = (t.job ≡ job.Tail) × IsShared t.built t.streamed part × (number ≡ t.number) × Ends v.meaning × (number < end_count v.meaning t.built t.streamed)

    -- ---- what it brings back
    -- a batch of the node's output, with this index where the order is kept
    pub record IsOut (index : Option ℕ) (rows : List (List Value)) (b : BatchValue) : Type 0 where
      pub columns : b.kinds ≡ v.columns
      pub at : b.index ≡ marked v.kept index
      pub given : b.rows ≡ rows

    -- the batch itself, from where its output goes on, where rows of it are left
    abbrev pub IsRest : Task (List Value) → Option ℕ → Option Waiting → Type 0
    IsRest t None None = Unit {0}
    IsRest t None (Some w) = ⊥
    IsRest t (Some next) None = ⊥
    IsRest t (Some next) (Some w) = (w.batch.index ≡ t.batch.index) × (w.batch.rows ≡ t.batch.rows) × (w.batch.kinds ≡ first_of v.inputs) × (w.from ≡ next)

    -- how many batches a node gives at its end, once it has gathered, or streamed, all
    abbrev pub IsCount : Bool → List (List Value) → List (Batch (List Value)) → ℕ → Type 0
    IsCount streams built streamed count = (streams ≡ false → count ≡ end_count v.meaning built streamed)

    abbrev pub IsFruit : Task (List Value) → Fruit O S L → Type 0
    IsFruit t (fruit.Emit table out) = (t.job ≡ job.Emit) × IsTable table × IsOut (Some t.number) (piece v.kept v.batch v.table t.number).rows out
    IsFruit t (fruit.Fold part index rows) =
        (t.job ≡ job.Fold)
        × IsPart (folded_of v.meaning v.inputs) (t.took ++ t.batch ∷ []) t.built [] part
        × (index ≡ key t.batch)
        × (rows ≡ length t.batch.rows)
    IsFruit t (fruit.Seal row count) = (t.job ≡ job.Seal) × IsRow (first_of v.inputs) [] (gathered t.took) [] row.items × IsCount v.meaning.shape.streams (gathered t.took) [] count
    IsFruit t (fruit.Stream part out rest) =
        (t.job ≡ job.Stream)
        × IsPart (first_of v.inputs) (t.took ++ t.batch ∷ []) t.built [] part
        × IsOut t.batch.index (sent_rows v.meaning t.built t.batch.rows t.batch.from) out
        × IsRest t (next_from v.meaning t.built t.batch.rows t.batch.from) rest
    IsFruit t (fruit.Close row count) = (t.job ≡ job.Close) × IsRow (first_of v.inputs) [] t.built t.took row.items × (count ≡ end_count v.meaning t.built t.took)
    IsFruit t (fruit.Tail part out) = (t.job ≡ job.Tail) × IsShared t.built t.streamed part × IsOut (Some t.number) (end_part v.meaning t.built t.streamed t.number) out
