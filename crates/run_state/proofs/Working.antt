-- What a claim took is the work of its task.
use Rattle.std.proofs.Common.{◌≡◌, ℕ, zero, suc, ◌+◌, ◌<◌, ◌≤◌, Bool, true, false, cond, ◌&&◌, nat_eq, List, [], ◌∷◌, ◌++◌, length, map, Option, Some, None, refl, sym, ap, subst, ◌∙◌, ◌⊎◌, inl, inr, arith, Vec, append_assoc, append-nil, eqb-true, slice_index_or}
use Rattle.std.specs.declared.alloc.Global.{Global}
use Rattle.std.specs.declared.sync.Arc.{Arc}
use Rattle.scalar_value.specs.declared.value.Value.{Value}
use Rattle.scalar_value.specs.declared.value.ColType.{ColType}
use Rattle.row_table.specs.declared.field.Field.{Field}
use Rattle.row_table.specs.Tables.{TableValue}
use Rattle.column_batch.specs.Batches.{kinds_of}
use Rattle.plan_machine.specs.declared.entry.Phase.{Phase}
use Rattle.plan_machine.specs.declared.entry.Phase.TheVariants.{Emitting, Folding, Streaming, Tailing}
use Rattle.plan_machine.specs.declared.entry.Job.{Job}
use Rattle.plan_machine.specs.declared.entry.Job.TheVariants as job
use Rattle.plan_machine.specs.declared.entry.Entry.TheVariants.{Claim}
use Rattle.plan_machine.specs.declared.shape.OpShape.{OpShape}
use Rattle.plan_machine.specs.Phases.{first_phase_of, part_count_of}
use Rattle.plan_machine.specs.Lists.{upd, at_or, gather}
use Rattle.plan_machine.specs.Batch.{Batch, blank, parts, rows_of}
use Rattle.plan_machine.specs.Plan.{IsNode, IsWorker, folds_from, streams_from}
use Rattle.plan_machine.specs.State.{State, Task, opening}
use Rattle.plan_machine.specs.Enabled.{Enabled}
use Rattle.plan_machine.specs.After.{after, claimed, task_of}
use Rattle.plan_machine.specs.History.{IsHistory}
use Rattle.plan_machine.specs.WellFormed.{Lawful, WellFormed, Streams}
use Rattle.plan_machine.proofs.DriverHistory.{grows}
use Rattle.plan_machine.proofs.Weigh.{upd-here}
use Rattle.plan_machine.proofs.Steps.{run, good-opening}
use Rattle.plan_machine.proofs.Turn.{Started, folds_input, streams_input}
use Rattle.plan_nodes.specs.declared.node.Node.{Node}
use Rattle.plan_nodes.specs.declared.node.NodeKind.{NodeKind}
use Rattle.plan_nodes.specs.declared.node.NodeKind.TheVariants.{Source, Filter, Project, Longer, Aggregate, HashJoin, OrderBy, Fetch, Window, Sink}
use Rattle.plan_nodes.specs.Kinds.{kind_meaning, input_count, is_source}
use Rattle.plan_nodes.specs.Operators.{OpMeaning, item, first_of, second_of, folded_of, size_of, Each, flat}
use Rattle.plan_nodes.specs.Plans.{IsPlan, node_at, input_schemas, input_at, machine_node_at}
use Rattle.task_work.specs.Sites.{Site}
use Rattle.task_work.specs.declared.work.Part.{Part}
use Rattle.task_work.specs.declared.work.Share.{Share}
use Rattle.task_work.specs.declared.work.Share.TheVariants as share
use Rattle.task_work.specs.declared.work.Work.TheVariants as work
use Rattle.task_work.specs.declared.work.Waiting.{Waiting}
use Rattle.task_work.specs.Work.{IsTable, IsShared, IsPart, IsPartOf, IsRow, IsFolded, IsStreamed}
use Rattle.plan_store.specs.Told.{Given, Told, plan_of, state_of, site_of, with_entry}
use Rattle.run_state.specs.Stored.{PartStands, IsWaiting, waiting_item, goes_on}
use Rattle.run_state.specs.Claiming.{reads_from, IsShareOf, IsRowOf, IsOldest, IsWorkOf}
use Rattle.run_state.proofs.Choosing.{and_left, and_right}
use Rattle.run_state.proofs.Known.{known}
use Rattle.run_state.proofs.Delivering.{site_workers}

-- ---- what the plan and the site say of a node

pub record Alike (g : Given) (n : ℕ) : Type 0 where
  pub start : ((plan_of g).node n).start ≡ first_phase_of (site_of g n).source (site_of g n).meaning.shape
  pub streams : ((plan_of g).node n).streams ≡ (site_of g n).meaning.shape.streams
  pub tails : ((plan_of g).node n).tails ≡ (site_of g n).meaning.shape.tails
  pub cuts : ((plan_of g).node n).cuts ≡ (site_of g n).meaning.cuts
  pub table : ((plan_of g).node n).table ≡ (site_of g n).table
  pub batch : (plan_of g).batch ≡ (site_of g n).batch
  pub rest : ((plan_of g).node n).rest ≡ (site_of g n).meaning.rest
  pub first : ((plan_of g).node n).first ≡ input_at (node_at g.nodes n).inputs 0
  pub second : ((plan_of g).node n).second ≡ input_at (node_at g.nodes n).inputs 1
  pub meaning : (site_of g n).meaning ≡ kind_meaning (node_at g.nodes n).kind (input_schemas g.nodes (node_at g.nodes n)) g.pace.batch
  pub inputs : (site_of g n).inputs ≡ map (λ e. kinds_of (node_at g.nodes e).schema) (node_at g.nodes n).inputs
  pub columns : (site_of g n).columns ≡ kinds_of (node_at g.nodes n).schema

alike : (g : Given) (n : ℕ) → Alike g n
unfolding site_of machine_node_at
alike g n =
    record {
      start = refl;
      streams = refl;
      tails = refl;
      cuts = refl;
      table = refl;
      batch = refl;
      rest = refl;
      first = refl;
      second = refl;
      meaning = refl;
      inputs = refl;
      columns = refl;
    }

source_is : (g : Given) (n : ℕ) → (site_of g n).source ≡ is_source (node_at g.nodes n).kind
unfolding site_of
source_is g n = refl

-- ---- kinds of nodes

sized : (k : NodeKind) (inputs : List (List Field)) (batch : ℕ) → (kind_meaning k inputs batch).shape.tails ≡ true → size_of (kind_meaning k inputs batch) ≡ batch
sized (Source name) inputs batch e = cc
sized (Filter x) inputs batch e = cc
sized (Project xs) inputs batch e = cc
sized (Longer s) inputs batch e = cc
sized (Aggregate s) inputs batch e = refl
sized (HashJoin j) inputs batch e = refl
sized (OrderBy ks) inputs batch e = refl
sized (Fetch offset count) inputs batch e = refl
sized (Window s) inputs batch e = refl
sized Sink inputs batch e = cc

one_input : (k : NodeKind) (inputs : List (List Field)) (batch : ℕ) → ((kind_meaning k inputs batch).shape.folds ≡ true) ⊎ ((kind_meaning k inputs batch).shape.streams ≡ true) → 1 ≤ input_count k
one_input (Source name) inputs batch (inl e) = cc
one_input (Source name) inputs batch (inr e) = cc
one_input (Filter x) inputs batch e = omega arith
one_input (Project xs) inputs batch e = omega arith
one_input (Longer s) inputs batch e = omega arith
one_input (Aggregate s) inputs batch e = omega arith
one_input (HashJoin j) inputs batch e = omega arith
one_input (OrderBy ks) inputs batch e = omega arith
one_input (Fetch offset count) inputs batch e = omega arith
one_input (Window s) inputs batch e = omega arith
one_input Sink inputs batch e = omega arith

two_inputs : (k : NodeKind) (inputs : List (List Field)) (batch : ℕ) → (kind_meaning k inputs batch).shape.folds ≡ true → (kind_meaning k inputs batch).shape.streams ≡ true → 2 ≤ input_count k
two_inputs (Source name) inputs batch e f = cc
two_inputs (Filter x) inputs batch e f = cc
two_inputs (Project xs) inputs batch e f = cc
two_inputs (Longer s) inputs batch e f = cc
two_inputs (Aggregate s) inputs batch e f = cc
two_inputs (HashJoin j) inputs batch e f = omega arith
two_inputs (OrderBy ks) inputs batch e f = cc
two_inputs (Fetch offset count) inputs batch e f = cc
two_inputs (Window s) inputs batch e f = cc
two_inputs Sink inputs batch e f = cc

-- what only streams streams
streams_alone : (k : NodeKind) (inputs : List (List Field)) (batch : ℕ) → is_source k ≡ false → (kind_meaning k inputs batch).shape.folds ≡ false → (kind_meaning k inputs batch).shape.streams ≡ true
streams_alone (Source name) inputs batch e f = cc
streams_alone (Filter x) inputs batch e f = refl
streams_alone (Project xs) inputs batch e f = refl
streams_alone (Longer s) inputs batch e f = refl
streams_alone (Aggregate s) inputs batch e f = cc
streams_alone (HashJoin j) inputs batch e f = cc
streams_alone (OrderBy ks) inputs batch e f = cc
streams_alone (Fetch offset count) inputs batch e f = cc
streams_alone (Window s) inputs batch e f = cc
streams_alone Sink inputs batch e f = cc

starts_folding : (source : Bool) (shape : OpShape) → first_phase_of source shape ≡ Folding → shape.folds ≡ true
starts_folding source shape e = by source shape.folds e
  where
    by : (b f : Bool) → cond b Emitting (cond f Folding Streaming) ≡ Folding → f ≡ true
    by true f e = cc
    by false true e = refl
    by false false e = cc

starts_streaming : (source : Bool) (shape : OpShape) → first_phase_of source shape ≡ Streaming → (source ≡ false) × (shape.folds ≡ false)
starts_streaming source shape e = by source shape.folds e
  where
    by : (b f : Bool) → cond b Emitting (cond f Folding Streaming) ≡ Streaming → (b ≡ false) × (f ≡ false)
    by true f e = cc
    by false true e = cc
    by false false e = (refl, refl)

first_columns : (nodes : List Node) (ins : List ℕ) → 1 ≤ length ins → kinds_of (node_at nodes (input_at ins 0)).schema ≡ first_of (map (λ e. kinds_of (node_at nodes e).schema) ins)
first_columns nodes [] some = absurd (omega arith)
first_columns nodes (x ∷ xs) some = refl

second_columns : (nodes : List Node) (ins : List ℕ) → 2 ≤ length ins → kinds_of (node_at nodes (input_at ins 1)).schema ≡ second_of (map (λ e. kinds_of (node_at nodes e).schema) ins)
second_columns nodes [] some = absurd (omega arith)
second_columns nodes (x ∷ []) some = absurd (omega arith)
second_columns nodes (x ∷ y ∷ ys) some = refl

-- ---- the lists of the workers, one after another

lists_from : {A : Type 0} → (ℕ → List A) → ℕ → ℕ → List (List A)
lists_from f j zero = []
lists_from f j (suc n) = f (suc j) ∷ lists_from f (suc j) n

flat_lists : {A : Type 0} (f : ℕ → List A) (j n : ℕ) → gather (j + n) f ≡ gather j f ++ flat (lists_from f j n)
unfolding lists_from
flat_lists f j zero = (let e : j + 0 ≡ j = omega arith in ap (λ m. gather m f) e) ∙ sym (append-nil (gather j f))
flat_lists f j (suc n) = (let e : j + suc n ≡ suc j + n = omega arith in ap (λ m. gather m f) e) ∙ (flat_lists f (suc j) n ∙ append_assoc (gather j f) (f (suc j)) (flat (lists_from f (suc j) n)))

each_list : {A B : Type 0} (R : A → List B → Type 0) (f : ℕ → List B) (d : A) (row : List A) (j : ℕ) → ((k : ℕ) → k < length row → R (slice_index_or row k d) (f (suc (j + k)))) → Each R row (lists_from f j (length row))
unfolding lists_from
each_list R f d [] j h = tt
each_list R f d (x ∷ xs) j h = (
  subst (λ m. R x (f (suc m))) (let e : j + 0 ≡ j = omega arith in e) (h 0 (omega arith)),
  each_list R f d xs (suc j) (λ k lt. subst (λ m. R (slice_index_or xs k d) (f (suc m))) (let e : j + suc k ≡ suc j + k = omega arith in e) (h (suc k) (omega arith))),
)

true_or_false : (b : Bool) → (b ≡ true) ⊎ (b ≡ false)
true_or_false true = inl refl
true_or_false false = inr refl

module _ {O S L : Type 0}
    (meaning : O → OpMeaning)
    (local_is : OpMeaning → List ColType → L → List (Batch (List Value)) → Type 0)
    (shared_is : OpMeaning → List (List ColType) → S → List (List Value) → List (Batch (List Value)) → Type 0)
    (told : Told)
    (planned : IsPlan told.given.nodes)
    (well : WellFormed (plan_of told.given))
    (lawful : Lawful (plan_of told.given))
    (legal : IsHistory (plan_of told.given) told.history)
  where
    -- ---- the share that a claim took

    table_at : (v : Site) (last : Bool) (taken : List (Batch (List Value))) (built : List (List Value)) (streamed : List (Batch (List Value))) (x : Share O S L)
        → PartStands meaning local_is shared_is v last Emitting taken built streamed x
        → (t : Arc TableValue Global) × (x ≡ share.Table t) × IsTable meaning local_is shared_is v t
    table_at v last taken built streamed (share.Table t) h = (t, refl, h)
    table_at v last taken built streamed (share.Part p) h = absurd h

    folded_at : (v : Site) (last : Bool) (taken : List (Batch (List Value))) (built : List (List Value)) (streamed : List (Batch (List Value))) (x : Share O S L)
        → PartStands meaning local_is shared_is v last Folding taken built streamed x
        → (p : Part O S L) × (x ≡ share.Part p) × IsPart meaning local_is shared_is v (folded_of v.meaning v.inputs) taken built [] p
    folded_at v last taken built streamed (share.Table t) h = absurd h
    folded_at v last taken built streamed (share.Part p) h = (p, refl, h)

    streamed_at : (v : Site) (last : Bool) (taken : List (Batch (List Value))) (built : List (List Value)) (streamed : List (Batch (List Value))) (x : Share O S L)
        → PartStands meaning local_is shared_is v last Streaming taken built streamed x
        → (p : Part O S L) × (x ≡ share.Part p) × IsPart meaning local_is shared_is v (first_of v.inputs) taken built [] p
    streamed_at v last taken built streamed (share.Table t) h = absurd h
    streamed_at v last taken built streamed (share.Part p) h = (p, refl, h)

    tailed_at : (v : Site) (last : Bool) (taken : List (Batch (List Value))) (built : List (List Value)) (streamed : List (Batch (List Value))) (x : Share O S L)
        → PartStands meaning local_is shared_is v last Tailing taken built streamed x
        → (p : Part O S L) × (x ≡ share.Part p) × IsShared meaning local_is shared_is v built streamed p
    tailed_at v last taken built streamed (share.Table t) h = absurd h
    tailed_at v last taken built streamed (share.Part p) h = (p, refl, h)

    module _ (w n : ℕ) where
      stands_in : (phase : Phase) → (state_of told).phase n ≡ phase → (slot : Option (Share O S L)) → IsShareOf meaning local_is shared_is told w n slot
          → (x : Share O S L) × (slot ≡ Some x) × PartStands meaning local_is shared_is (site_of told.given n) (nat_eq n (plan_of told.given).sink) phase ((state_of told).locals n w) ((state_of told).built n) ((state_of told).streamed n) x
      stands_in phase at slot h =
          let s = state_of told in
          (h.0, h.1, subst (λ q. PartStands meaning local_is shared_is (site_of told.given n) (nat_eq n (plan_of told.given).sink) q (s.locals n w) (s.built n) (s.streamed n) h.0) at h.2)

      pub table_there : (state_of told).phase n ≡ Emitting → (slot : Option (Share O S L)) → IsShareOf meaning local_is shared_is told w n slot
          → (t : Arc TableValue Global) × (slot ≡ Some (share.Table t)) × IsTable meaning local_is shared_is (site_of told.given n) t
      table_there at slot h =
          let s = state_of told in
          let x = stands_in Emitting at slot h in
          let y = table_at (site_of told.given n) (nat_eq n (plan_of told.given).sink) (s.locals n w) (s.built n) (s.streamed n) x.0 x.2 in
          (y.0, x.1 ∙ ap Some y.1, y.2)

      pub folded_there : (state_of told).phase n ≡ Folding → (slot : Option (Share O S L)) → IsShareOf meaning local_is shared_is told w n slot
          → (p : Part O S L) × (slot ≡ Some (share.Part p)) × IsPart meaning local_is shared_is (site_of told.given n) (folded_of (site_of told.given n).meaning (site_of told.given n).inputs) ((state_of told).locals n w) ((state_of told).built n) [] p
      folded_there at slot h =
          let s = state_of told in
          let x = stands_in Folding at slot h in
          let y = folded_at (site_of told.given n) (nat_eq n (plan_of told.given).sink) (s.locals n w) (s.built n) (s.streamed n) x.0 x.2 in
          (y.0, x.1 ∙ ap Some y.1, y.2)

      pub streamed_there : (state_of told).phase n ≡ Streaming → (slot : Option (Share O S L)) → IsShareOf meaning local_is shared_is told w n slot
          → (p : Part O S L) × (slot ≡ Some (share.Part p)) × IsPart meaning local_is shared_is (site_of told.given n) (first_of (site_of told.given n).inputs) ((state_of told).locals n w) ((state_of told).built n) [] p
      streamed_there at slot h =
          let s = state_of told in
          let x = stands_in Streaming at slot h in
          let y = streamed_at (site_of told.given n) (nat_eq n (plan_of told.given).sink) (s.locals n w) (s.built n) (s.streamed n) x.0 x.2 in
          (y.0, x.1 ∙ ap Some y.1, y.2)

      pub tailed_there : (state_of told).phase n ≡ Tailing → (slot : Option (Share O S L)) → IsShareOf meaning local_is shared_is told w n slot
          → (p : Part O S L) × (slot ≡ Some (share.Part p)) × IsShared meaning local_is shared_is (site_of told.given n) ((state_of told).built n) ((state_of told).streamed n) p
      tailed_there at slot h =
          let s = state_of told in
          let x = stands_in Tailing at slot h in
          let y = tailed_at (site_of told.given n) (nat_eq n (plan_of told.given).sink) (s.locals n w) (s.built n) (s.streamed n) x.0 x.2 in
          (y.0, x.1 ∙ ap Some y.1, y.2)

    -- ---- the shares of all

    folded_part : (n k : ℕ) (slot : Option (Share O S L)) → (state_of told).phase n ≡ Folding → IsShareOf meaning local_is shared_is told k n slot
        → IsPartOf meaning local_is shared_is (site_of told.given n) (folded_of (site_of told.given n).meaning (site_of told.given n).inputs) ((state_of told).built n) [] slot ((state_of told).locals n k)
    folded_part n k slot at h =
        let x = folded_there k n at slot h in
        subst (λ o. IsPartOf meaning local_is shared_is (site_of told.given n) (folded_of (site_of told.given n).meaning (site_of told.given n).inputs) ((state_of told).built n) [] o ((state_of told).locals n k)) (sym x.1) x.2

    streamed_part : (n k : ℕ) (slot : Option (Share O S L)) → (state_of told).phase n ≡ Streaming → IsShareOf meaning local_is shared_is told k n slot
        → IsPartOf meaning local_is shared_is (site_of told.given n) (first_of (site_of told.given n).inputs) ((state_of told).built n) [] slot ((state_of told).locals n k)
    streamed_part n k slot at h =
        let x = streamed_there k n at slot h in
        subst (λ o. IsPartOf meaning local_is shared_is (site_of told.given n) (first_of (site_of told.given n).inputs) ((state_of told).built n) [] o ((state_of told).locals n k)) (sym x.1) x.2

    row_is : (n : ℕ) (kinds : List ColType) (row : List (Option (Share O S L)))
        → IsRowOf meaning local_is shared_is told n row
        → ((k : ℕ) (slot : Option (Share O S L)) → IsShareOf meaning local_is shared_is told k n slot → IsPartOf meaning local_is shared_is (site_of told.given n) kinds ((state_of told).built n) [] slot ((state_of told).locals n k))
        → IsRow meaning local_is shared_is (site_of told.given n) kinds (gather (plan_of told.given).workers ((state_of told).locals n)) ((state_of told).built n) [] row
    row_is n kinds row h part =
        let P = plan_of told.given in
        let f = (state_of told).locals n in
        record {
          lists = lists_from f 0 (length row);
          parts = each_list (IsPartOf meaning local_is shared_is (site_of told.given n) kinds ((state_of told).built n) []) f None row 0
              (λ k lt.
              let size = h.size in
              subst (λ m. IsPartOf meaning local_is shared_is (site_of told.given n) kinds ((state_of told).built n) [] (slice_index_or row k None) (f (suc m))) (let e : k ≡ 0 + k = omega arith in e)
              (part (suc k) (slice_index_or row k None) (h.each k (omega arith))));
          all =
              let flats : gather (0 + length row) f ≡ flat (lists_from f 0 (length row)) = flat_lists f 0 (length row) in
              sym flats ∙ (let size = h.size in let e : 0 + length row ≡ P.workers = omega arith in ap (λ m. gather m f) e);
          workers = h.size ∙ sym (site_workers told.given n);
        }

    some_workers : (w n : ℕ) → IsWorker (plan_of told.given) w → 1 ≤ (site_of told.given n).workers
    some_workers w n worker = let s = site_workers told.given n in let lo = worker.0 in let hi = worker.1 in omega arith

    -- ---- the task of a claim

    flies : (w n k : ℕ) (j : Job) (t : Task (List Value)) → (claimed (plan_of told.given) (state_of told) w n j k).tasks ≡ upd (state_of told).tasks w (Some t)
        → (state_of (with_entry told (Claim w n j k) 2)).tasks w ≡ Some t
    unfolding after
    flies w n k j t e =
        let P = plan_of told.given in
        ap (λ (z : State (List Value)). z.tasks w) (grows P told.history (Claim w n j k) (opening P)).state
        ∙ (ap (λ (f : ℕ → Option (Task (List Value))). f w) e ∙ upd-here (state_of told).tasks w (Some t))

    pub emit_work : (w n k : ℕ) → Enabled (plan_of told.given) (state_of told) (Claim w n job.Emit k)
        → (slot : Option (Share O S L)) (table : Arc TableValue Global) → slot ≡ Some (share.Table table)
        → IsShareOf meaning local_is shared_is told w n slot
        → IsWorkOf meaning local_is shared_is (with_entry told (Claim w n job.Emit k) 2) w n (work.Emit table k)
    emit_work w n k can slot table is h =
        let s = state_of told in
        let a = alike told.given n in
        let x = table_there w n can.1.0 slot h in
        let e = sym x.1 ∙ is in
        let same : x.0 ≡ table = cc in
        let fits = can.1.2 in (
          task_of s n job.Emit k blank [],
          flies w n k job.Emit (task_of s n job.Emit k blank []) refl,
          refl,
          (
            refl,
            subst (λ t. IsTable meaning local_is shared_is (site_of told.given n) t) same x.2,
            refl,
            subst (λ m. k < parts m (site_of told.given n).table) a.batch (subst (λ rows. k < parts (plan_of told.given).batch rows) a.table fits),
          ),
        )

    pub tail_work : (w n k : ℕ) → Enabled (plan_of told.given) (state_of told) (Claim w n job.Tail k)
        → (slot : Option (Share O S L)) (part : Part O S L) → slot ≡ Some (share.Part part)
        → IsShareOf meaning local_is shared_is told w n slot
        → IsWorkOf meaning local_is shared_is (with_entry told (Claim w n job.Tail k) 2) w n (work.Tail part k)
    tail_work w n k can slot part is h =
        let P = plan_of told.given in
        let s = state_of told in
        let a = alike told.given n in
        let x = tailed_there w n can.1.0 slot h in
        let e = sym x.1 ∙ is in
        let same : x.0 ≡ part = cc in
        let tails = sym a.tails ∙ (known P lawful well told.history legal can.0.sound).tailing n can.0.node can.1.0 in
        let size : size_of (site_of told.given n).meaning ≡ P.batch = ap size_of a.meaning ∙ sized (node_at told.given.nodes n).kind (input_schemas told.given.nodes (node_at told.given.nodes n)) told.given.pace.batch (sym (ap (λ m. m.shape.tails) a.meaning) ∙ tails) in (
          task_of s n job.Tail k blank [],
          flies w n k job.Tail (task_of s n job.Tail k blank []) refl,
          refl,
          (
            refl,
            subst (λ p. IsShared meaning local_is shared_is (site_of told.given n) (s.built n) (s.streamed n) p) same x.2,
            refl,
            inl tails,
            subst (λ m. k < part_count_of (length ((site_of told.given n).meaning.rest (s.built n) (rows_of (s.streamed n)))) m) (sym size)
                (subst (λ (r : List (List Value) → List (List Value) → List (List Value)). k < part_count_of (length (r (s.built n) (rows_of (s.streamed n)))) P.batch) a.rest can.1.2),
          ),
        )

    module _ (n : ℕ) (node : IsNode (plan_of told.given) n) (sound : (state_of told).failed ≡ false) where
      starts : Started (plan_of told.given) lawful well (state_of told)
      starts = (run (plan_of told.given) lawful well told.history (opening (plan_of told.given)) (good-opening (plan_of told.given) lawful well) legal sound).good.sound.fit.started

      kind_folds : (site_of told.given n).meaning.shape.folds ≡ true → (kind_meaning (node_at told.given.nodes n).kind (input_schemas told.given.nodes (node_at told.given.nodes n)) told.given.pace.batch).shape.folds ≡ true
      kind_folds e = sym (ap (λ m. m.shape.folds) (alike told.given n).meaning) ∙ e

      kind_streams : (site_of told.given n).meaning.shape.streams ≡ true → (kind_meaning (node_at told.given.nodes n).kind (input_schemas told.given.nodes (node_at told.given.nodes n)) told.given.pace.batch).shape.streams ≡ true
      kind_streams e = sym (ap (λ m. m.shape.streams) (alike told.given n).meaning) ∙ e

      counted : length (node_at told.given.nodes n).inputs ≡ input_count (node_at told.given.nodes n).kind
      counted = (planned.placed n node.0 node.1).count

      pub folds_here : (state_of told).phase n ≡ Folding → (site_of told.given n).meaning.shape.folds ≡ true
      folds_here at = starts_folding (site_of told.given n).source (site_of told.given n).meaning.shape (sym (alike told.given n).start ∙ starts.folding n node at)

      pub streams_here : (state_of told).phase n ≡ Streaming → (site_of told.given n).meaning.shape.streams ≡ true
      streams_here at = by (starts.streaming n node at)
        where
          a : Alike told.given n
          a = alike told.given n

          by : Streams ((plan_of told.given).node n) → (site_of told.given n).meaning.shape.streams ≡ true
          by (inr j) = sym a.streams ∙ j.1
          by (inl o) =
              let x = starts_streaming (site_of told.given n).source (site_of told.given n).meaning.shape (sym a.start ∙ o) in
              ap (λ m. m.shape.streams) a.meaning
              ∙ streams_alone (node_at told.given.nodes n).kind (input_schemas told.given.nodes (node_at told.given.nodes n)) told.given.pace.batch (sym (source_is told.given n) ∙ x.0) (sym (ap (λ m. m.shape.folds) a.meaning) ∙ x.1)

      first_input : (site_of told.given n).meaning.shape.streams ≡ true ⊎ (site_of told.given n).meaning.shape.folds ≡ true → (site_of told.given (streams_from (plan_of told.given) n)).columns ≡ first_of (site_of told.given n).inputs
      first_input some =
          let a = alike told.given n in
          let ins = (node_at told.given.nodes n).inputs in
          let one = one_input (node_at told.given.nodes n).kind (input_schemas told.given.nodes (node_at told.given.nodes n)) told.given.pace.batch (elim some [ inl s ↦ inr (kind_streams s) | inr f ↦ inl (kind_folds f) ]) in
          let c = counted in
          (alike told.given (streams_from (plan_of told.given) n)).columns
          ∙ (ap (λ e. kinds_of (node_at told.given.nodes e).schema) a.first
          ∙ (first_columns told.given.nodes ins (omega arith) ∙ ap first_of (sym a.inputs)))

      folded_input : (site_of told.given n).meaning.shape.folds ≡ true → (site_of told.given (folds_from (plan_of told.given) n)).columns ≡ folded_of (site_of told.given n).meaning (site_of told.given n).inputs
      folded_input folds = by (site_of told.given n).meaning.shape.streams refl
        where
          a : Alike told.given n
          a = alike told.given n

          by : (b : Bool) → (site_of told.given n).meaning.shape.streams ≡ b → (site_of told.given (folds_from (plan_of told.given) n)).columns ≡ folded_of (site_of told.given n).meaning (site_of told.given n).inputs
          by true e =
              let P = plan_of told.given in
              let ins = (node_at told.given.nodes n).inputs in
              let at : folds_from P n ≡ (P.node n).second = ap (λ b. cond b (P.node n).second (P.node n).first) (a.streams ∙ e) in
              let two = two_inputs (node_at told.given.nodes n).kind (input_schemas told.given.nodes (node_at told.given.nodes n)) told.given.pace.batch (kind_folds folds) (kind_streams e) in
              let c = counted in
              ap (λ m. (site_of told.given m).columns) at
              ∙ ((alike told.given (P.node n).second).columns
              ∙ (ap (λ m. kinds_of (node_at told.given.nodes m).schema) a.second
              ∙ (second_columns told.given.nodes ins (omega arith)
              ∙ (ap second_of (sym a.inputs)
              ∙ sym (ap (λ b. cond b (second_of (site_of told.given n).inputs) (first_of (site_of told.given n).inputs)) e)))))
          by false e =
              let P = plan_of told.given in
              let at : folds_from P n ≡ (P.node n).first = ap (λ b. cond b (P.node n).second (P.node n).first) (a.streams ∙ e) in
              ap (λ m. (site_of told.given m).columns) at
              ∙ (first_input (inr folds)
              ∙ sym (ap (λ b. cond b (second_of (site_of told.given n).inputs) (first_of (site_of told.given n).inputs)) e))

      -- what is gathered gave no rows before
      not_going : (state_of told).phase n ≡ Folding → goes_on (plan_of told.given) (folds_from (plan_of told.given) n) ≡ true → ⊥
      not_going at h =
          let P = plan_of told.given in
          let folds = starts.folding n node at in
          let i = folds_input P well n node folds in
          let e = folds_from P n in
          let g : ((P.node n).streams && (nat_eq (streams_from P n) e && (P.node n).cuts)) ≡ true = subst (λ m. ((P.node m).streams && (nat_eq (streams_from P m) e && (P.node m).cuts)) ≡ true) i.user h in
          let s = and_left (P.node n).streams (nat_eq (streams_from P n) e && (P.node n).cuts) g in
          let q = eqb-true (streams_from P n) e (and_left (nat_eq (streams_from P n) e) (P.node n).cuts (and_right (P.node n).streams (nat_eq (streams_from P n) e && (P.node n).cuts) g)) in
          (well.nodes n node).apart (folds, s) (q ∙ ap (λ b. cond b (P.node n).second (P.node n).first) s)

      cuts_here : (state_of told).phase n ≡ Streaming → goes_on (plan_of told.given) (streams_from (plan_of told.given) n) ≡ true → (site_of told.given n).meaning.cuts ≡ true
      cuts_here at h =
          let P = plan_of told.given in
          let i = streams_input P well n node (starts.streaming n node at) in
          let e = streams_from P n in
          let g : ((P.node n).streams && (nat_eq (streams_from P n) e && (P.node n).cuts)) ≡ true = subst (λ m. ((P.node m).streams && (nat_eq (streams_from P m) e && (P.node m).cuts)) ≡ true) i.user h in
          sym (alike told.given n).cuts ∙ and_right (nat_eq (streams_from P n) e) (P.node n).cuts (and_right (P.node n).streams (nat_eq (streams_from P n) e && (P.node n).cuts) g)

      -- the batch that was taken, on the edge that the phase reads
      taken_on : (e : ℕ) (x : Waiting) → reads_from (plan_of told.given) n ((state_of told).phase n) ≡ e → IsOldest told n x
          → (waiting_item x ≡ at_or blank 0 ((state_of told).waiting e)) × IsWaiting (site_of told.given e).columns (goes_on (plan_of told.given) e) x
      taken_on e x is o = (
        subst (λ m. waiting_item x ≡ at_or blank 0 ((state_of told).waiting m)) is o.item,
        subst (λ m. IsWaiting (site_of told.given m).columns (goes_on (plan_of told.given) m) x) is o.stands,
      )

      is_folded : (w k : ℕ) → k ≡ 0 → (state_of told).phase n ≡ Folding → (x : Waiting) → IsOldest told n x
          → IsFolded meaning local_is shared_is (site_of told.given n) (task_of (state_of told) n job.Fold k (at_or blank k ((state_of told).waiting (folds_from (plan_of told.given) n))) ((state_of told).locals n w)) x.batch
      is_folded w k zero_is at x o =
          let P = plan_of told.given in
          let s = state_of told in
          let e = folds_from P n in
          let y = taken_on e x (ap (reads_from P n) at) o in
          let none : x.from ≡ 0 = elim y.1.starts [ inl g ↦ absurd (not_going at g) | inr z ↦ z ] in
          record {
            folds = folds_here at;
            batch = ap (λ j. at_or blank j (s.waiting e)) zero_is ∙ (sym y.0 ∙ ap (item x.batch) none);
            columns = y.1.columns_are ∙ folded_input (folds_here at);
          }

      is_streamed : (w k : ℕ) → k ≡ 0 → (state_of told).phase n ≡ Streaming → (x : Waiting) → IsOldest told n x
          → IsStreamed meaning local_is shared_is (site_of told.given n) (task_of (state_of told) n job.Stream k (at_or blank k ((state_of told).waiting (streams_from (plan_of told.given) n))) ((state_of told).locals n w)) x.batch x.from
      is_streamed w k zero_is at x o =
          let P = plan_of told.given in
          let s = state_of told in
          let e = streams_from P n in
          let y = taken_on e x (ap (reads_from P n) at) o in
          record {
            streams = streams_here at;
            batch = ap (λ j. at_or blank j (s.waiting e)) zero_is ∙ sym y.0;
            columns = y.1.columns_are ∙ first_input (inl (streams_here at));
            starts = elim y.1.starts [ inl g ↦ inl (cuts_here at g) | inr z ↦ inr z ];
          }

    pub fold_work : (w n k : ℕ) → k ≡ 0 → Enabled (plan_of told.given) (state_of told) (Claim w n job.Fold k)
        → (slot : Option (Share O S L)) (part : Part O S L) (x : Waiting) → slot ≡ Some (share.Part part)
        → IsShareOf meaning local_is shared_is told w n slot → IsOldest told n x
        → IsWorkOf meaning local_is shared_is (with_entry told (Claim w n job.Fold k) 2) w n (work.Fold part x.batch)
    fold_work w n k zero_is can slot part x is h o =
        let s = state_of told in
        let y = folded_there w n can.1.0 slot h in
        let e = sym y.1 ∙ is in
        let same : y.0 ≡ part = cc in
        let t = task_of s n job.Fold k (at_or blank k (s.waiting (folds_from (plan_of told.given) n))) (s.locals n w) in (
          t,
          flies w n k job.Fold t refl,
          refl,
          (
            refl,
            subst (λ p. IsPart meaning local_is shared_is (site_of told.given n) (folded_of (site_of told.given n).meaning (site_of told.given n).inputs) (s.locals n w) (s.built n) [] p) same y.2,
            is_folded n can.0.node can.0.sound w k zero_is can.1.0 x o,
          ),
        )

    pub stream_work : (w n k : ℕ) → k ≡ 0 → Enabled (plan_of told.given) (state_of told) (Claim w n job.Stream k)
        → (slot : Option (Share O S L)) (part : Part O S L) (x : Waiting) → slot ≡ Some (share.Part part)
        → IsShareOf meaning local_is shared_is told w n slot → IsOldest told n x
        → IsWorkOf meaning local_is shared_is (with_entry told (Claim w n job.Stream k) 2) w n (work.Stream part x.batch x.from)
    stream_work w n k zero_is can slot part x is h o =
        let s = state_of told in
        let y = streamed_there w n can.1.0 slot h in
        let e = sym y.1 ∙ is in
        let same : y.0 ≡ part = cc in
        let t = task_of s n job.Stream k (at_or blank k (s.waiting (streams_from (plan_of told.given) n))) (s.locals n w) in (
          t,
          flies w n k job.Stream t refl,
          refl,
          (
            refl,
            subst (λ p. IsPart meaning local_is shared_is (site_of told.given n) (first_of (site_of told.given n).inputs) (s.locals n w) (s.built n) [] p) same y.2,
            is_streamed n can.0.node can.0.sound w k zero_is can.1.0 x o,
          ),
        )

    pub seal_work : (w n k : ℕ) → Enabled (plan_of told.given) (state_of told) (Claim w n job.Seal k)
        → (row : Vec (Option (Share O S L)) Global)
        → IsRowOf meaning local_is shared_is told n row.items
        → IsWorkOf meaning local_is shared_is (with_entry told (Claim w n job.Seal k) 2) w n (work.Seal row)
    seal_work w n k can row h =
        let s = state_of told in
        let t = task_of s n job.Seal k blank (gather (plan_of told.given).workers (s.locals n)) in (
          t,
          flies w n k job.Seal t refl,
          refl,
          (refl, row_is n (folded_of (site_of told.given n).meaning (site_of told.given n).inputs) row.items h (λ j slot x. folded_part n j slot can.1.0 x), some_workers w n can.0.worker, folds_here n can.0.node can.0.sound can.1.0),
        )

    pub close_work : (w n k : ℕ) → Enabled (plan_of told.given) (state_of told) (Claim w n job.Close k)
        → (row : Vec (Option (Share O S L)) Global)
        → IsRowOf meaning local_is shared_is told n row.items
        → IsWorkOf meaning local_is shared_is (with_entry told (Claim w n job.Close k) 2) w n (work.Close row)
    close_work w n k can row h =
        let s = state_of told in
        let t = task_of s n job.Close k blank (gather (plan_of told.given).workers (s.locals n)) in (
          t,
          flies w n k job.Close t refl,
          refl,
          (refl, row_is n (first_of (site_of told.given n).inputs) row.items h (λ j slot x. streamed_part n j slot can.1.0 x), some_workers w n can.0.worker, streams_here n can.0.node can.0.sound can.1.0, sym (alike told.given n).tails ∙ can.1.4),
        )
