-- What is read of a run that has ended.
use Rattle.std.proofs.Common.{◌≡◌, ℕ, zero, suc, ◌+◌, ◌-◌, ◌*◌, ◌/◌, ◌≤◌, Bool, true, false, nat_eq, List, [], ◌∷◌, ◌++◌, length, take, drop, map, Vec, Option, Some, None, refl, sym, ap, subst, ◌∙◌, arith, inl, inr, slice_index_or}
use Rattle.std.proofs.Math.Seq.{take-add, take-suc}
use Rattle.std.proofs.lemmas.List.{take_all, map-append, length-map}
use Rattle.std.proofs.lemmas.Bool.Decides.{eqb_tells}
use Rattle.scalar_value.specs.declared.value.Value.{Value}
use Rattle.scalar_value.specs.declared.value.ColType.{ColType}
use Rattle.row_table.specs.declared.field.Field.{Field}
use Rattle.plan_machine.specs.declared.entry.Phase.TheVariants.{Done}
use Rattle.plan_machine.specs.declared.entry.Entry.{Entry}
use Rattle.plan_machine.specs.Batch.{Batch}
use Rattle.plan_machine.specs.Phases.{part_count_of}
use Rattle.plan_machine.specs.State.{Task, opening}
use Rattle.plan_machine.specs.History.{state_after, peak, IsEnded}
use Rattle.plan_nodes.specs.declared.node.NodeKind.{NodeKind}
use Rattle.plan_nodes.specs.declared.node.NodeKind.TheVariants.{Source, Filter, Project, Longer, Aggregate, HashJoin, OrderBy, Fetch, Window, Sink}
use Rattle.plan_nodes.specs.Operators.{OpMeaning, Ends, end_rows, size_of}
use Rattle.plan_nodes.specs.Kinds.{is_sink, sink_meaning, kind_meaning}
use Rattle.plan_nodes.specs.Plans.{IsPlan, node_at, input_schemas}
use Rattle.task_work.specs.Sites.{Site}
use Rattle.task_work.specs.declared.work.Part.{Part}
use Rattle.task_work.specs.declared.work.Share.{Share}
use Rattle.task_work.specs.declared.work.Share.TheVariants as share
use Rattle.task_work.specs.Work as work
use Rattle.plan_store.specs.declared.queue.Queue.{Queue}
use Rattle.plan_store.specs.declared.stage.Stage.{Stage}
use Rattle.plan_store.specs.declared.stage.NodeInfo.{NodeInfo}
use Rattle.plan_store.specs.declared.stage.Flight.{Flight}
use Rattle.plan_store.specs.Told.{Given, plan_of, site_of}
use Rattle.run_state.specs.Stored.{Held, Stands, RowIs, SlotIs, PartStands, Away, QueueIs, goes_on}
use Rattle.std.specs.Arc.{arc_value}
use Rattle.std.specs.declared.alloc.Global.{Global}
use Rattle.plan_machine.specs.Meaning.{SameRows, meaning as meaning_of}
use Rattle.plan_machine.specs.Laws.{RowsKept, Bounded}
use Rattle.run_state.specs.Opening.{peaks_upto, IsFinished}
use Rattle.run_state.specs.AtEnd.{peak_of}
use Rattle.run_state.proofs.Known.{known}
use Rattle.plan_store.proofs.At.{some_of}
use Rattle.plan_store.proofs.RowsPut.{row_read}

-- ---- rows, part by part

pub parts_join : {R : Type 0} (b k : ℕ) (rows : List R) → take (k * b) rows ++ take b (drop (k * b) rows) ≡ take ((k + 1) * b) rows
parts_join b k rows = let q : (k + 1) * b ≡ k * b + b = omega arith in rw q (sym (take-add (k * b) b rows))

covered : (b n : ℕ) → 1 ≤ b → n ≤ ((n + (b - 1)) / b) * b
covered b n l = omega arith

pub parts_all : {R : Type 0} (b : ℕ) (rows : List R) → 1 ≤ b → take (part_count_of (length rows) b * b) rows ≡ rows
parts_all b rows l = take_all (part_count_of (length rows) b * b) rows (covered b (length rows) l)

-- ---- the sink

sink_kind : (k : NodeKind) (inputs : List (List Field)) (batch : ℕ) → is_sink k ≡ true → kind_meaning k inputs batch ≡ sink_meaning batch
sink_kind (Source name) inputs batch e = cc
sink_kind (Filter x) inputs batch e = cc
sink_kind (Project xs) inputs batch e = cc
sink_kind (Longer s) inputs batch e = cc
sink_kind (Aggregate s) inputs batch e = cc
sink_kind (HashJoin j) inputs batch e = cc
sink_kind (OrderBy ks) inputs batch e = cc
sink_kind (Fetch offset count) inputs batch e = cc
sink_kind (Window s) inputs batch e = cc
sink_kind Sink inputs batch e = refl

pub sink_site : (g : Given) → IsPlan g.nodes → (site_of g (plan_of g).sink).meaning ≡ sink_meaning g.pace.batch
unfolding site_of
sink_site g p = sink_kind (node_at g.nodes (length g.nodes)).kind (input_schemas g.nodes (node_at g.nodes (length g.nodes))) g.pace.batch p.last

first_of_some : {A : Type 0} (xs : List A) (d e : A) → 1 ≤ length xs → slice_index_or xs 0 d ≡ slice_index_or xs 0 e
first_of_some [] d e some = absurd (omega arith)
first_of_some (x ∷ xs) d e some = refl

site_workers : (g : Given) (n : ℕ) → (site_of g n).workers ≡ (plan_of g).workers
unfolding site_of
site_workers g n = refl

module _ {O S L : Type 0}
    (meaning : O → OpMeaning)
    (local_is : OpMeaning → List ColType → L → List (Batch (List Value)) → Type 0)
    (shared_is : OpMeaning → List (List ColType) → S → List (List Value) → List (Batch (List Value)) → Type 0)
    (g : Given)
  where
    done_part : (v : Site) (taken : List (Batch (List Value))) (built : List (List Value)) (streamed : List (Batch (List Value))) (x : Share O S L)
        → PartStands meaning local_is shared_is v true Done taken built streamed x
        → (p : Part O S L) × (x ≡ share.Part p) × work.IsShared meaning local_is shared_is v built [] p
    done_part v taken built streamed (share.Table t) h = absurd h
    done_part v taken built streamed (share.Part p) h = (p, refl, h)

    slot_part : (v : Site) (taken : List (Batch (List Value))) (built : List (List Value)) (streamed : List (Batch (List Value))) (away : Type 0) (slot : Option (Share O S L))
        → SlotIs meaning local_is shared_is v true false Done taken built streamed away slot → (away → ⊥)
        → (p : Part O S L) × (slot ≡ Some (share.Part p)) × work.IsShared meaning local_is shared_is v built [] p
    slot_part v taken built streamed away None h never = absurd (never (h.here refl refl refl))
    slot_part v taken built streamed away (Some x) h never =
        let (p, same, stands) = done_part v taken built streamed x h.stands in
        (p, ap (λ y. Some y) same, stands)

    same_node : (n : ℕ) → nat_eq n n ≡ true
    same_node n = elim (eqb_tells n n) [ inl q ↦ q.0 | inr q ↦ absurd (let differs = q.1 in omega arith) ]

    -- the first worker's share at the sink of a run that has ended
    pub sink_share : (es : List Entry) (infos : List NodeInfo) (stages : List Stage) (queues : List Queue) (rows : List (List (Option (Share O S L)))) (seats : List (Option Flight)) (failed : Bool) (flying room capacity : ℕ)
        → Stands meaning local_is shared_is g es infos stages queues rows seats failed flying room capacity
        → IsEnded (plan_of g) (state_after (plan_of g) es)
        → (1 ≤ length rows)
        × (1 ≤ length (slice_index_or rows (length rows - 1) []))
        × ((p : Part O S L) × (slice_index_or (slice_index_or rows (length rows - 1) []) 0 None ≡ Some (share.Part p)) × work.IsShared meaning local_is shared_is (site_of g (plan_of g).sink) ((state_after (plan_of g) es).built (plan_of g).sink) [] p)
    sink_share es infos stages queues rows seats failed flying room capacity h ended = (some, full, part)
      where
        some : 1 ≤ length rows
        some = let a = h.stored.all_rows in let b = h.planned.some in omega arith

        at : suc (length rows - 1) ≡ (plan_of g).sink
        at = let a = h.stored.all_rows in omega arith

        nobody : (w : ℕ) (t : Task (List Value)) → (state_after (plan_of g) es).tasks w ≡ Some t → ⊥
        nobody w t e =
            let k = known (plan_of g) h.lawful h.well es h.legal ended.sound in
            let busy = sym (ended.idle w (k.no_other w t e)) ∙ e in
            absurd (cc)

        row_is : RowIs meaning local_is shared_is (site_of g (plan_of g).sink) true false Done ((state_after (plan_of g) es).locals (plan_of g).sink) ((state_after (plan_of g) es).built (plan_of g).sink) ((state_after (plan_of g) es).streamed (plan_of g).sink) (state_after (plan_of g) es).tasks (plan_of g).sink (slice_index_or rows (length rows - 1) [])
        row_is =
            let r = h.stored.rows_are (length rows - 1) [] (omega arith) in
            let r1 = subst (λ n. RowIs meaning local_is shared_is (site_of g n) (nat_eq n (plan_of g).sink) (state_after (plan_of g) es).failed ((state_after (plan_of g) es).phase n) ((state_after (plan_of g) es).locals n) ((state_after (plan_of g) es).built n) ((state_after (plan_of g) es).streamed n) (state_after (plan_of g) es).tasks n (slice_index_or rows (length rows - 1) [])) at r in
            let r2 = subst (λ b. RowIs meaning local_is shared_is (site_of g (plan_of g).sink) b (state_after (plan_of g) es).failed ((state_after (plan_of g) es).phase (plan_of g).sink) ((state_after (plan_of g) es).locals (plan_of g).sink) ((state_after (plan_of g) es).built (plan_of g).sink) ((state_after (plan_of g) es).streamed (plan_of g).sink) (state_after (plan_of g) es).tasks (plan_of g).sink (slice_index_or rows (length rows - 1) [])) (same_node (plan_of g).sink) r1 in
            let r3 = subst (λ b. RowIs meaning local_is shared_is (site_of g (plan_of g).sink) true b ((state_after (plan_of g) es).phase (plan_of g).sink) ((state_after (plan_of g) es).locals (plan_of g).sink) ((state_after (plan_of g) es).built (plan_of g).sink) ((state_after (plan_of g) es).streamed (plan_of g).sink) (state_after (plan_of g) es).tasks (plan_of g).sink (slice_index_or rows (length rows - 1) [])) ended.sound r2 in
            subst (λ p. RowIs meaning local_is shared_is (site_of g (plan_of g).sink) true false p ((state_after (plan_of g) es).locals (plan_of g).sink) ((state_after (plan_of g) es).built (plan_of g).sink) ((state_after (plan_of g) es).streamed (plan_of g).sink) (state_after (plan_of g) es).tasks (plan_of g).sink (slice_index_or rows (length rows - 1) [])) ended.done r3

        workers : 1 ≤ (site_of g (plan_of g).sink).workers
        workers = subst (λ n. 1 ≤ n) (sym (site_workers g (plan_of g).sink)) h.sizes.workers.0

        full : 1 ≤ length (slice_index_or rows (length rows - 1) [])
        full = elim row_is.size [
          | inl e ↦ let w = workers in omega arith
          | inr e ↦ let (w, t, busy, at_node, all) = e.1 refl refl in absurd (nobody w t busy)
        ]

        part : (p : Part O S L) × (slice_index_or (slice_index_or rows (length rows - 1) []) 0 None ≡ Some (share.Part p)) × work.IsShared meaning local_is shared_is (site_of g (plan_of g).sink) ((state_after (plan_of g) es).built (plan_of g).sink) [] p
        part =
            slot_part (site_of g (plan_of g).sink) ((state_after (plan_of g) es).locals (plan_of g).sink 1) ((state_after (plan_of g) es).built (plan_of g).sink) ((state_after (plan_of g) es).streamed (plan_of g).sink) (Away (state_after (plan_of g) es).tasks (plan_of g).sink 1) (slice_index_or (slice_index_or rows (length rows - 1) []) 0 None)
            (row_is.slots 0 workers)
            (λ away. elim away [
              | inl x ↦ (let (t, busy, at_node) = x in nobody 1 t busy)
              | inr x ↦ (let (w, t, busy, at_node, all) = x in nobody w t busy)
            ])

    some_inj : (p q : Part O S L) → Some (share.Part p) ≡ Some (share.Part q) → p ≡ q
    some_inj p q e = cc

    -- the same, where the rows of shares stand in vectors
    pub sink_slot : (es : List Entry) (infos : List NodeInfo) (stages : List Stage) (queues : List Queue) (shares : List (Vec (Option (Share O S L)) Global)) (seats : List (Option Flight)) (failed : Bool) (flying room capacity : ℕ)
        → Stands meaning local_is shared_is g es infos stages queues (map (λ (v : Vec (Option (Share O S L)) Global). v.items) shares) seats failed flying room capacity
        → IsEnded (plan_of g) (state_after (plan_of g) es)
        → (row : Vec (Option (Share O S L)) Global) (k : ℕ) → k ≡ length shares - 1 → row ≡ slice_index_or shares k row
        → (1 ≤ length row.items)
        × ((p : Part O S L)
        × ((d : Option (Share O S L)) → slice_index_or row.items 0 d ≡ Some (share.Part p))
        × ((q : Part O S L) → Some (share.Part p) ≡ Some (share.Part q) → work.IsShared meaning local_is shared_is (site_of g (plan_of g).sink) ((state_after (plan_of g) es).built (plan_of g).sink) [] q))
    sink_slot es infos stages queues shares seats failed flying room capacity h ended row k last is =
        let all : List (List (Option (Share O S L))) = map (λ (v : Vec (Option (Share O S L)) Global). v.items) shares in
        let long : length all ≡ length shares = length-map shares (λ (v : Vec (Option (Share O S L)) Global). v.items) in
        let found = sink_share es infos stages queues all seats failed flying room capacity h ended in
        let few = found.0 in
        let at : length all - 1 ≡ k = omega arith in
        let items : row.items ≡ slice_index_or all (length all - 1) [] = row_read shares k row [] (omega arith) is ∙ ap (λ n. slice_index_or all n []) (sym at) in
        let some : 1 ≤ length row.items = subst (λ xs. 1 ≤ length xs) (sym items) found.1 in
        let (p, there, stands) = found.2 in (
          some,
          (
            p,
            (λ d. first_of_some row.items d None some ∙ (ap (λ xs. slice_index_or xs 0 None) items ∙ there)),
            (λ q same. subst (λ x. work.IsShared meaning local_is shared_is (site_of g (plan_of g).sink) ((state_after (plan_of g) es).built (plan_of g).sink) [] x) (some_inj p q same) stands),
          ),
        )

    -- what its operator gives at its end are the rows that it gathered
    pub sink_reads : IsPlan g.nodes → 1 ≤ g.pace.batch → (built : List (List Value)) (p : Part O S L) (o : O)
        → work.IsShared meaning local_is shared_is (site_of g (plan_of g).sink) built [] p → o ≡ arc_value p.op
        → Ends (meaning o) × (1 ≤ size_of (meaning o)) × (end_rows (meaning o) built [] ≡ built)
    sink_reads plan low built p o h same =
        let is : meaning o ≡ sink_meaning g.pace.batch = ap meaning same ∙ (h.op ∙ sink_site g plan) in
        (subst Ends (sym is) (inr (refl, refl)), subst (λ m. 1 ≤ size_of m) (sym is) low, ap (λ m. end_rows m built []) is)

    -- ---- peaks

    pub peaks_are : (es : List Entry) (queues : List Queue) (n : ℕ) → n ≤ length queues
        → Held (λ n q. QueueIs (site_of g n).columns (goes_on (plan_of g) n) ((plan_of g).pause + (plan_of g).workers) ((state_after (plan_of g) es).waiting n) ((state_after (plan_of g) es).paused n) (peak (plan_of g) n es (opening (plan_of g))) q) queues
        → map peak_of (take n queues) ≡ peaks_upto (plan_of g) es n
    peaks_are es queues zero l h = refl
    peaks_are es queues (suc n) l h =
        let d = some_of n queues (omega arith) in
        let here : (slice_index_or queues n d).edge.peak ≡ peak (plan_of g) (suc n) es (opening (plan_of g)) = (h n d (omega arith)).is_peak in
        let rest = peaks_are es queues n (omega arith) h in
        ap (map peak_of) (take-suc queues n d (omega arith))
        ∙ (map-append peak_of (take n queues) (slice_index_or queues n d ∷ [])
        ∙ (ap (λ xs. xs ++ (slice_index_or queues n d).edge.peak ∷ []) rest ∙ ap (λ p. peaks_upto (plan_of g) es n ++ p ∷ []) here))

    -- ---- the whole

    pub finished_is : RowsKept (List Value) → Bounded (List Value) → (es : List Entry) (infos : List NodeInfo) (stages : List Stage) (queues : List Queue) (rows : List (List (Option (Share O S L)))) (seats : List (Option Flight)) (failed : Bool) (flying room capacity : ℕ)
        → Stands meaning local_is shared_is g es infos stages queues rows seats failed flying room capacity
        → IsEnded (plan_of g) (state_after (plan_of g) es)
        → (given : List (List Value)) (peaks : List ℕ)
        → given ≡ (state_after (plan_of g) es).built (plan_of g).sink → peaks ≡ map peak_of (take (length queues - 1) queues)
        → IsFinished g (record { rows = given; history = es; peaks = peaks })
    finished_is kept bound es infos stages queues rows seats failed flying room capacity h ended given peaks rows_are peaks_are_those =
        record {
          legal = h.legal;
          ended = ended;
          result = rows_are;
          same = subst (λ rs. SameRows ((plan_of g).node (plan_of g).sink).kept rs (meaning_of (plan_of g) (plan_of g).sink)) (sym rows_are) (kept (plan_of g) h.lawful h.well es h.legal ended);
          within = λ e edge. (bound (plan_of g) h.well es h.legal e edge).1;
          most =
              peaks_are_those
              ∙ (peaks_are es queues (length queues - 1) (omega arith) h.stored.queues_are
              ∙ ap (peaks_upto (plan_of g) es) (let all = h.stored.all_queues in let e : length queues - 1 ≡ (plan_of g).sink - 1 = omega arith in e));
        }
