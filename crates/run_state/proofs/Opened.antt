-- What is stored as a run begins stands for its opening state.
use Rattle.std.proofs.Common.{◌≡◌, ℕ, suc, ◌+◌, ◌<◌, ◌≤◌, Bool, true, false, cond, nat_eq, List, [], length, Option, Some, None, ◌⊎◌, inl, inr, slice_index_or, refl, sym, ap, subst, ◌∙◌, arith, IsTrue}
use Rattle.std.specs.Arc.{arc_value}
use Rattle.std.specs.VecDeque.{deque_capacity}
use Rattle.scalar_value.specs.declared.value.Value.{Value}
use Rattle.scalar_value.specs.declared.value.ColType.{ColType}
use Rattle.row_table.specs.declared.field.Field.{Field}
use Rattle.row_table.specs.Tables.{TableValue}
use Rattle.backpressure.specs.Edges.{quiet}
use Rattle.column_batch.specs.Batches.{kinds_of}
use Rattle.plan_machine.specs.declared.entry.Phase.{Phase}
use Rattle.plan_machine.specs.declared.entry.Phase.TheVariants.{Emitting, Folding, Streaming}
use Rattle.plan_machine.specs.declared.shape.OpShape.{OpShape}
use Rattle.plan_machine.specs.Phases.{first_phase_of}
use Rattle.plan_machine.specs.Batch.{Batch}
use Rattle.plan_machine.specs.Lists.{at_or}
use Rattle.plan_machine.specs.State.{opening}
use Rattle.plan_machine.specs.History.{replay, peak}
use Rattle.plan_machine.specs.WellFormed.{Lawful, WellFormed}
use Rattle.plan_nodes.specs.declared.node.Node.{Node}
use Rattle.plan_nodes.specs.declared.node.NodeKind.{NodeKind}
use Rattle.plan_nodes.specs.declared.node.NodeKind.TheVariants.{Source, Filter, Project, Longer, Aggregate, HashJoin, OrderBy, Fetch, Window, Sink}
use Rattle.plan_nodes.specs.Kinds.{kind_meaning, is_source}
use Rattle.plan_nodes.specs.Plans.{IsPlan, node_at, no_node, input_schemas, input_kinds, meaning_at, machine_node_at, tables_of}
use Rattle.plan_nodes.specs.Operators.{OpMeaning}
use Rattle.task_work.specs.Sites.{Site}
use Rattle.task_work.specs.declared.work.Part.{Part}
use Rattle.task_work.specs.declared.work.Share.{Share}
use Rattle.task_work.specs.declared.work.Share.TheVariants as share
use Rattle.task_work.specs.Work as work
use Rattle.plan_store.specs.declared.queue.Queue.{Queue}
use Rattle.plan_store.specs.declared.stage.Stage.{Stage}
use Rattle.plan_store.specs.declared.stage.NodeInfo.{NodeInfo}
use Rattle.plan_store.specs.declared.stage.Flight.{Flight}
use Rattle.plan_store.specs.Told.{Given, plan_of, site_of}
use Rattle.plan_store.specs.Openings.{info_of, stage_of}
use Rattle.plan_store.specs.Shares.{IsTableShare, IsPartShare, IsFreshPart, RowOpens, RowsOpen}
use Rattle.run_state.specs.Stored.{Stored, Stands, Bounding, SlotIs, RowIs, Away, QueueIs, goes_on}
use Rattle.run_state.proofs.Begins.{at_is, info_opens, stage_opens, queue_opens, seat_opens, none_in_flight}

fits_same : (kind : NodeKind) (inputs : List (List Field)) (kinds : List (List ColType)) (batch : ℕ) → (kind_meaning kind inputs 1).fits kinds ≡ (kind_meaning kind inputs batch).fits kinds
fits_same (Source name) inputs kinds batch = refl
fits_same (Filter x) inputs kinds batch = refl
fits_same (Project xs) inputs kinds batch = refl
fits_same (Longer s) inputs kinds batch = refl
fits_same (Aggregate s) inputs kinds batch = refl
fits_same (HashJoin j) inputs kinds batch = refl
fits_same (OrderBy ks) inputs kinds batch = refl
fits_same (Fetch offset count) inputs kinds batch = refl
fits_same (Window s) inputs kinds batch = refl
fits_same Sink inputs kinds batch = refl

columns_same : (kind : NodeKind) (inputs : List (List Field)) (kinds : List (List ColType)) (batch : ℕ) → (kind_meaning kind inputs 1).columns kinds ≡ (kind_meaning kind inputs batch).columns kinds
columns_same (Source name) inputs kinds batch = refl
columns_same (Filter x) inputs kinds batch = refl
columns_same (Project xs) inputs kinds batch = refl
columns_same (Longer s) inputs kinds batch = refl
columns_same (Aggregate s) inputs kinds batch = refl
columns_same (HashJoin j) inputs kinds batch = refl
columns_same (OrderBy ks) inputs kinds batch = refl
columns_same (Fetch offset count) inputs kinds batch = refl
columns_same (Window s) inputs kinds batch = refl
columns_same Sink inputs kinds batch = refl

first_other : (s : OpShape) → (first_phase_of false s ≡ Folding) ⊎ (first_phase_of false s ≡ Streaming)
first_other s = by s.folds
  where
    by : (f : Bool) → (cond f Folding Streaming ≡ Folding) ⊎ (cond f Folding Streaming ≡ Streaming)
    by true = inl refl
    by false = inr refl

module _ {O S L : Type 0}
    (meaning : O → OpMeaning)
    (local_is : OpMeaning → List ColType → L → List (Batch (List Value)) → Type 0)
    (shared_is : OpMeaning → List (List ColType) → S → List (List Value) → List (Batch (List Value)) → Type 0)
  where
    slot_source : (v : Site) (last : Bool) (phase : Phase) (t : TableValue) (away : Type 0) (slot : Option (Share O S L))
        → v.source ≡ true → phase ≡ Emitting → t.rows ≡ v.table → kinds_of t.schema ≡ v.columns → IsTableShare meaning local_is shared_is t slot
        → SlotIs meaning local_is shared_is v last false phase [] [] [] away slot
    slot_source v last phase t away None source begins rows columns is = absurd is
    slot_source v last phase t away (Some (share.Part p)) source begins rows columns is = absurd is
    slot_source v last phase t away (Some (share.Table u)) source begins rows columns is =
        subst (λ ph. SlotIs meaning local_is shared_is v last false ph [] [] [] away (Some (share.Table u))) (sym begins)
        record {
          stands = record {
            source = source;
            rows = ap (λ (x : TableValue). x.rows) is ∙ rows;
            columns = ap (λ (x : TableValue). kinds_of x.schema) is ∙ columns;
          };
          here = λ f l none. absurd (let no : ⊥ = cc in no);
        }

    part_opens : (v : Site) (kinds : List ColType) (op : O) (p : Part O S L)
        → v.source ≡ false → meaning op ≡ v.meaning → IsTrue (v.meaning.fits v.inputs) → v.columns ≡ v.meaning.columns v.inputs → IsFreshPart meaning local_is shared_is op p
        → work.IsPart meaning local_is shared_is v kinds [] [] [] p
    part_opens v kinds op p source is fits columns fresh =
        let same : meaning (arc_value p.op) ≡ v.meaning = ap meaning fresh.operator ∙ is in
        record {
          is_shared = record {
            source = source;
            op = same;
            fits = fits;
            columns = columns;
            shared = subst (λ m. shared_is m v.inputs (arc_value p.shared) [] []) is (fresh.shared v.inputs);
          };
          local = subst (λ m. local_is m kinds p.local []) is (fresh.local kinds);
        }

    slot_other : (v : Site) (last : Bool) (phase : Phase) (op : O) (away : Type 0) (slot : Option (Share O S L))
        → v.source ≡ false → (phase ≡ Folding) ⊎ (phase ≡ Streaming) → meaning op ≡ v.meaning → IsTrue (v.meaning.fits v.inputs) → v.columns ≡ v.meaning.columns v.inputs
        → IsPartShare meaning local_is shared_is op slot
        → SlotIs meaning local_is shared_is v last false phase [] [] [] away slot
    slot_other v last phase op away None source begins is fits columns fresh = absurd fresh
    slot_other v last phase op away (Some (share.Table t)) source begins is fits columns fresh = absurd fresh
    slot_other v last phase op away (Some (share.Part p)) source (inl folding) is fits columns fresh =
        subst (λ ph. SlotIs meaning local_is shared_is v last false ph [] [] [] away (Some (share.Part p))) (sym folding)
        record { stands = part_opens v _ op p source is fits columns fresh; here = λ f l none. absurd (let no : ⊥ = cc in no) }
    slot_other v last phase op away (Some (share.Part p)) source (inr streaming) is fits columns fresh =
        subst (λ ph. SlotIs meaning local_is shared_is v last false ph [] [] [] away (Some (share.Part p))) (sym streaming)
        record { stands = part_opens v _ op p source is fits columns fresh; here = λ f l none. absurd (let no : ⊥ = cc in no) }

    module _ (g : Given) where
      -- the site of a node by its operator's meaning
      site_source : (n : ℕ) → (site_of g n).source ≡ is_source (node_at g.nodes n).kind
      unfolding site_of
      site_source n = refl

      row_begins : (n : ℕ) (row : List (Option (Share O S L))) → 1 ≤ n → n ≤ length g.nodes → IsPlan g.nodes
          → RowOpens meaning local_is shared_is g.nodes g.tables g.pace.batch g.pace.workers n row
          → RowIs meaning local_is shared_is (site_of g n) (nat_eq n (plan_of g).sink) false ((opening (plan_of g)).phase n) (λ _. []) [] [] (λ _. None) n row
      unfolding site_of machine_node_at
      row_begins n row low up planned opens =
          let here = planned.placed n low up in
          record {
            size = inl opens.size;
            slots = λ k lt. by k lt (is_source (node_at g.nodes n).kind) refl;
          }
        where
          by : (k : ℕ) → k < g.pace.workers → (b : Bool) → is_source (node_at g.nodes n).kind ≡ b
              → SlotIs meaning local_is shared_is (site_of g n) (nat_eq n (plan_of g).sink) false ((opening (plan_of g)).phase n) [] [] [] (Away (λ _. None) n (suc k)) (slice_index_or row k None)
          by k lt true e =
              let s = opens.source e in
              slot_source (site_of g n) (nat_eq n (plan_of g).sink) ((opening (plan_of g)).phase n) s.0 (Away (λ _. None) n (suc k)) (slice_index_or row k None) e
              (ap (λ b. first_phase_of b (meaning_at g.nodes g.pace.batch n).shape) e) s.2 (sym s.1.1) (s.3 k lt)
          by k lt false e =
              let s = opens.other e in
              let kind = (node_at g.nodes n).kind in
              let inputs = input_schemas g.nodes (node_at g.nodes n) in
              let kinds = input_kinds g.nodes (node_at g.nodes n) in
              let here = planned.placed n low up in
              slot_other (site_of g n) (nat_eq n (plan_of g).sink) ((opening (plan_of g)).phase n) s.0 (Away (λ _. None) n (suc k)) (slice_index_or row k None) e
              (subst (λ b. (first_phase_of b (meaning_at g.nodes g.pace.batch n).shape ≡ Folding) ⊎ (first_phase_of b (meaning_at g.nodes g.pace.batch n).shape ≡ Streaming)) (sym e) (first_other (meaning_at g.nodes g.pace.batch n).shape))
              s.1 (subst IsTrue (fits_same kind inputs kinds g.pace.batch) here.fits) (here.columns e ∙ columns_same kind inputs kinds g.pace.batch) (s.2 k lt)

      pub stored_opens : (most : ℕ → ℕ) (infos : List NodeInfo) (stages : List Stage) (queues : List Queue) (rows : List (List (Option (Share O S L)))) (seats : List (Option Flight))
          → IsPlan g.nodes
          → ((e : ℕ) → most e ≡ 0)
          → length infos ≡ length g.nodes → ((k : ℕ) (d : NodeInfo) (v : Node) → k < length g.nodes → slice_index_or infos k d ≡ info_of g.nodes (slice_index_or g.nodes k v) (suc k))
          → length stages ≡ length g.nodes → ((k : ℕ) (d : Stage) (v : Node) → k < length g.nodes → slice_index_or stages k d ≡ stage_of (slice_index_or g.nodes k v) g.pace.batch (at_or [] k (tables_of g.nodes g.tables)))
          → length queues ≡ length g.nodes
          → ((k : ℕ) (d : Queue) → k < length g.nodes → ((slice_index_or queues k d).waiting.items ≡ []) × (g.pace.pause + g.pace.workers ≤ deque_capacity (slice_index_or queues k d).waiting) × ((slice_index_or queues k d).edge ≡ quiet))
          → RowsOpen meaning local_is shared_is g.nodes g.tables g.pace.batch g.pace.workers rows
          → length seats ≡ g.pace.workers → ((k : ℕ) (d : Option Flight) → k < g.pace.workers → slice_index_or seats k d ≡ None)
          → Stored meaning local_is shared_is g (opening (plan_of g)) most infos stages queues rows seats false 0
      stored_opens most infos stages queues rows seats planned none all_infos infos_are all_stages stages_are all_queues queues_are rows_are all_seats seats_are =
          let node : (k : ℕ) → node_at g.nodes (suc k) ≡ slice_index_or g.nodes k no_node = λ k. at_is no_node k g.nodes in
          record {
            all_infos = all_infos;
            all_stages = all_stages;
            all_queues = all_queues;
            all_rows = rows_are.size;
            all_seats = all_seats;
            infos_are = λ k d lt. info_opens g k (slice_index_or infos k d) (infos_are k d no_node (subst (λ m. k < m) all_infos lt) ∙ ap (λ (v : Node). info_of g.nodes v (suc k)) (sym (node k)));
            stages_are = λ k d lt. stage_opens g k (slice_index_or stages k d) (stages_are k d no_node (subst (λ m. k < m) all_stages lt) ∙ ap (λ (v : Node). stage_of v g.pace.batch (at_or [] k (tables_of g.nodes g.tables))) (sym (node k)));
            queues_are = λ k d lt.
                let q = queues_are k d (subst (λ m. k < m) all_queues lt) in
                subst (λ m. QueueIs (site_of g (suc k)).columns (goes_on (plan_of g) (suc k)) ((plan_of g).pause + (plan_of g).workers) [] false m (slice_index_or queues k d)) (sym (none (suc k)))
                (queue_opens g (suc k) (slice_index_or queues k d) q.0 q.1 q.2);
            rows_are = λ k d lt.
                let within : k < length g.nodes = subst (λ m. k < m) rows_are.size lt in
                row_begins (suc k) (slice_index_or rows k d) (omega arith) within planned (rows_are.each k d within);
            seats_are = λ k d lt. seat_opens g (slice_index_or seats k d) (seats_are k d (subst (λ m. k < m) all_seats lt));
            failed_is = refl;
            flying_is = sym (none_in_flight (plan_of g).workers);
          }

      pub stands_opens : (infos : List NodeInfo) (stages : List Stage) (queues : List Queue) (rows : List (List (Option (Share O S L)))) (seats : List (Option Flight)) (capacity : ℕ)
          → IsPlan g.nodes → WellFormed (plan_of g) → Lawful (plan_of g) → Bounding meaning local_is shared_is g
          → ((most : ℕ → ℕ) → ((e : ℕ) → most e ≡ 0) → Stored meaning local_is shared_is g (opening (plan_of g)) most infos stages queues rows seats false 0)
          → Stands meaning local_is shared_is g [] infos stages queues rows seats false 0 0 capacity
      unfolding replay peak
      stands_opens infos stages queues rows seats capacity planned well lawful sizes stored =
          record {
            planned = planned;
            well = well;
            lawful = lawful;
            sizes = sizes;
            legal = tt;
            stored = stored (λ e. peak (plan_of g) e [] (opening (plan_of g))) (λ e. refl);
            fits = omega arith;
          }
