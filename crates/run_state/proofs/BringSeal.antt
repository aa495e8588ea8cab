-- A delivery of a Seal.
use Rattle.std.proofs.Common.{◌≡◌, ℕ, suc, ◌-◌, ◌<◌, Bool, true, false, nat_eq, List, [], ◌∷◌, ◌++◌, length, Option, Some, None, refl, sym, ap, subst, ◌∙◌, inl, arith, slice_index_or, slice_set, Vec}
use Rattle.std.specs.declared.alloc.Global.{Global}
use Rattle.scalar_value.specs.declared.value.Value.{Value}
use Rattle.scalar_value.specs.declared.value.ColType.{ColType}
use Rattle.plan_machine.specs.declared.entry.Phase.{Phase}
use Rattle.plan_machine.specs.declared.entry.Phase.TheVariants.{Emitting, Folding, Tailing}
use Rattle.plan_machine.specs.declared.entry.Job.{Job}
use Rattle.plan_machine.specs.declared.entry.Job.TheVariants.{Seal}
use Rattle.plan_machine.specs.declared.entry.Entry.{Entry}
use Rattle.plan_machine.specs.declared.entry.Entry.TheVariants.{Deliver}
use Rattle.plan_machine.specs.declared.shape.OpShape.{OpShape}
use Rattle.plan_machine.specs.Phases.{phase_after_seal_of, part_count_of}
use Rattle.plan_machine.specs.Lists.{upd}
use Rattle.plan_machine.specs.Batch.{Batch, gathered, parts, rows_of}
use Rattle.plan_machine.specs.Plan.{IsNode, IsWorker}
use Rattle.plan_machine.specs.State.{Task}
use Rattle.plan_machine.specs.InFlight.{phase_of, TaskFits}
use Rattle.plan_machine.specs.After.{after, landed}
use Rattle.plan_machine.specs.History.{state_after}
use Rattle.plan_machine.proofs.Weigh.{upd-here, upd-else}
use Rattle.plan_machine.proofs.Flight.{flying}
use Rattle.plan_nodes.specs.Operators.{OpMeaning, first_of, end_count}
use Rattle.plan_nodes.specs.Plans.{machine_node_at}
use Rattle.task_work.specs.Sites.{Site}
use Rattle.task_work.specs.declared.work.Share.{Share}
use Rattle.task_work.specs.declared.work.Share.TheVariants as share
use Rattle.task_work.specs.declared.work.Part.{Part}
use Rattle.task_work.specs.declared.work.Fruit.TheVariants as fruit
use Rattle.task_work.specs.Work.{IsPart, IsRow, IsCount}
use Rattle.plan_store.specs.declared.queue.Queue.{Queue}
use Rattle.plan_store.specs.declared.stage.Stage.{Stage}
use Rattle.plan_store.specs.declared.stage.NodeInfo.{NodeInfo}
use Rattle.plan_store.specs.declared.stage.Flight.{Flight}
use Rattle.plan_store.specs.Told.{Given, plan_of, site_of}
use Rattle.run_state.specs.Stored.{Held, InfoIs, StageIs, PartStands, Stands}
use Rattle.plan_store.specs.Putting.{less_busy}
use Rattle.plan_store.specs.Putting.{in_phase}
use Rattle.plan_store.proofs.At.{some_of}
use Rattle.run_state.proofs.Known.{known}
use Rattle.run_state.proofs.Delivering.{site_workers, RowAt, stage_landed, departing}
use Rattle.run_state.proofs.Landed.{Lands, lands, after_landed}
use Rattle.run_state.proofs.Bringing.{Brings, placed}
use Rattle.run_state.proofs.Sizes.{size_tails}
use Rattle.run_state.proofs.Whole.{gather_nil, written_twice, row_new, whole_at}

never_emits : (a b : Bool) → phase_after_seal_of a b ≡ Emitting → ⊥
never_emits true b e = cc
never_emits false true e = cc
never_emits false false e = cc

only_tails : (a b : Bool) → phase_after_seal_of a b ≡ Tailing → (a ≡ false) × (b ≡ true)
only_tails true b e = cc
only_tails false true e = (refl, refl)
only_tails false false e = cc

-- the count of batches at the end, where the operator's size is the run's
end_is : (g : Given) (n : ℕ) (built : List (List Value)) (streamed : List (Batch (List Value))) (count : ℕ) → ((plan_of g).node n).tails ≡ true
    → count ≡ end_count (site_of g n).meaning built streamed → count ≡ parts (plan_of g).batch (((plan_of g).node n).rest built (rows_of streamed))
unfolding site_of machine_node_at
end_is g n built streamed count tails is = is ∙ ap (λ (k : ℕ). part_count_of (length (((plan_of g).node n).rest built (rows_of streamed))) k) (size_tails g n tails)

pub ends_in : (g : Given) (n : ℕ) (built : List (List Value)) (streamed : List (Batch (List Value))) (count : ℕ) → ((plan_of g).node n).tails ≡ true
    → count ≡ end_count (site_of g n).meaning built streamed → count ≡ parts (plan_of g).batch (((plan_of g).node n).rest built (rows_of streamed))
ends_in g n built streamed count tails is = end_is g n built streamed count tails is

streams_is : (g : Given) (n : ℕ) → (site_of g n).meaning.shape.streams ≡ ((plan_of g).node n).streams
unfolding site_of machine_node_at
streams_is g n = refl

module _ {O S L : Type 0}
    (meaning : O → OpMeaning)
    (local_is : OpMeaning → List ColType → L → List (Batch (List Value)) → Type 0)
    (shared_is : OpMeaning → List (List ColType) → S → List (List Value) → List (Batch (List Value)) → Type 0)
  where
    -- a new part in the phase after the Seal
    new_part : (v : Site) (last a b : Bool) (taken : List (Batch (List Value))) (built : List (List Value)) (streamed : List (Batch (List Value))) (p : Part O S L)
        → taken ≡ [] → streamed ≡ []
        → IsPart meaning local_is shared_is v (first_of v.inputs) [] built [] p → PartStands meaning local_is shared_is v last (phase_after_seal_of a b) taken built streamed (share.Part p)
    new_part v last true b taken built streamed p none not is = subst (λ l. IsPart meaning local_is shared_is v (first_of v.inputs) l built [] p) (sym none) is
    new_part v last false true taken built streamed p none not is = subst (λ l. PartStands meaning local_is shared_is v last Tailing taken built l (share.Part p)) (sym not) is.is_shared
    new_part v last false false taken built streamed p none not is = is.is_shared

    module _ (g : Given) where
      seal_at : (es : List Entry) (infos : List NodeInfo) (stages stages' : List Stage) (queues : List Queue) (rows rows' : List (List (Option (Share O S L)))) (row : List (Option (Share O S L))) (seats seats' : List (Option Flight)) (failed : Bool) (count count' room capacity capacity' q p given : ℕ) (ph : Phase) (t0 : Task (List Value))
          → Stands meaning local_is shared_is g es infos stages queues rows seats failed count room capacity
          → IsWorker (plan_of g) (suc q) → (state_after (plan_of g) es).tasks (suc q) ≡ Some (record t0 { node = suc p }) → IsNode (plan_of g) (suc p)
          → Lands (plan_of g) (state_after (plan_of g) es) (suc q) (suc p) (record t0 { node = suc p })
          → t0.job ≡ Seal
          → after (plan_of g) (state_after (plan_of g) es) (Deliver (suc q)) ≡ landed (plan_of g) (state_after (plan_of g) es) (suc q) (record t0 { node = suc p }) Seal
          → IsRow meaning local_is shared_is (site_of g (suc p)) (first_of (site_of g (suc p)).inputs) [] (gathered t0.took) [] row
          → IsCount meaning local_is shared_is (site_of g (suc p)) (site_of g (suc p)).meaning.shape.streams (gathered t0.took) [] given
          → ph ≡ phase_after_seal_of ((plan_of g).node (suc p)).streams ((plan_of g).node (suc p)).tails
          → seats' ≡ slice_set seats q None
          → ((d : Stage) → stages' ≡ slice_set stages p (in_phase (less_busy (slice_index_or stages p d)) ph given))
          → rows' ≡ slice_set rows p row
          → count' ≡ count - 1 → capacity' ≡ capacity
          → Stands meaning local_is shared_is g (es ++ Deliver (suc q) ∷ []) infos stages' queues rows' seats' failed count' room capacity'
      seal_at es infos stages stages' queues rows rows' row seats seats' failed count count' room capacity capacity' q p given ph t0 h worker flies node k job is row_is count_is phase_is seats_set stages_set rows_set less same =
          let P = plan_of g in
          let s = state_after P es in
          let t : Task (List Value) = record t0 { node = suc p } in
          let v = site_of g (suc p) in
          let a : Bool = (P.node (suc p)).streams in
          let b : Bool = (P.node (suc p)).tails in
          let after_seal : Phase = phase_after_seal_of a b in
          let built : List (List Value) = gathered t0.took in
          let known_now = known P h.lawful h.well es h.legal k.sound in
          let folding : s.phase (suc p) ≡ Folding = k.phase ∙ ap phase_of job in
          let none : s.streamed (suc p) ≡ [] = known_now.unstreamed (suc p) node (inl folding) in
          let away : TaskFits P s (suc p) (suc q) t Seal = subst (λ (j : Job). TaskFits P s (suc p) (suc q) t j) job k.fits in
          let phase' : ℕ → Phase = upd s.phase (suc p) after_seal in
          let built' : ℕ → List (List Value) = upd s.built (suc p) built in
          let phase_here : phase' (suc p) ≡ after_seal = upd-here s.phase (suc p) after_seal in
          let built_here : built' (suc p) ≡ built = upd-here s.built (suc p) built in
          let ready = departing meaning local_is shared_is g es infos stages queues rows seats failed count room capacity (suc q) (suc p) t h worker flies refl in
          let within : p < length stages = let place = ready.place in omega arith in
          let d = some_of p stages within in
          let st = slice_index_or stages p d in
          let old = stage_landed meaning local_is shared_is g s stages q p t d worker flies refl within h.stored.stages_are in
          let row_at : RowAt meaning local_is shared_is g (suc p) s.failed after_seal (s.locals (suc p)) built (s.streamed (suc p)) (upd s.tasks (suc q) None) row =
          row_new meaning local_is shared_is v (nat_eq (suc p) P.sink) s.failed after_seal (s.locals (suc p)) built built (s.streamed (suc p)) [] (upd s.tasks (suc q) None) (suc p) (first_of v.inputs) row row_is
          (λ m part lt is_part.
          let same_workers = site_workers g (suc p) in
          new_part v (nat_eq (suc p) P.sink) a b (s.locals (suc p) (suc m)) built (s.streamed (suc p)) part (gather_nil P.workers (suc m) (s.locals (suc p)) (omega arith) (omega arith) away.1) none is_part) in
          let stage_at : StageIs P (suc p) after_seal (s.next (suc p)) built (s.streamed (suc p)) (length (flying P (upd s.tasks (suc q) None) (suc p))) (in_phase (less_busy st) ph given) =
          record {
            is_phase = phase_is;
            is_next = old.is_next;
            emits = λ e. absurd (never_emits a b e);
            ends = λ e.
                let only = only_tails a b e in
                subst (λ (l : List (Batch (List Value))). given ≡ parts P.batch ((P.node (suc p)).rest built (rows_of l))) (sym none)
                (ends_in g (suc p) built [] given only.1 (count_is (streams_is g (suc p) ∙ only.0)));
            busy = old.busy;
          } in
          whole_at meaning local_is shared_is g es phase' built' s.streamed infos stages stages' queues rows rows' row seats seats' failed count count' room capacity capacity' q p t (in_phase (less_busy st) ph given) h worker flies refl
          is
          (record { phases = λ n ne. upd-else s.phase (suc p) after_seal n ne; lists = λ n ne. refl; builds = λ n ne. upd-else s.built (suc p) built n ne; streams = λ n ne. refl })
          (subst (λ (x : Phase). StageIs P (suc p) x (s.next (suc p)) (built' (suc p)) (s.streamed (suc p)) (length (flying P (upd s.tasks (suc q) None) (suc p))) (in_phase (less_busy st) ph given)) (sym phase_here)
          (subst (λ (x : List (List Value)). StageIs P (suc p) after_seal (s.next (suc p)) x (s.streamed (suc p)) (length (flying P (upd s.tasks (suc q) None) (suc p))) (in_phase (less_busy st) ph given)) (sym built_here) stage_at))
          (subst (λ (x : Phase). RowAt meaning local_is shared_is g (suc p) s.failed x (s.locals (suc p)) (built' (suc p)) (s.streamed (suc p)) (upd s.tasks (suc q) None) row) (sym phase_here)
          (subst (λ (x : List (List Value)). RowAt meaning local_is shared_is g (suc p) s.failed after_seal (s.locals (suc p)) x (s.streamed (suc p)) (upd s.tasks (suc q) None) row) (sym built_here) row_at))
          seats_set (stages_set d) rows_set less same

      -- what the node's info says of the phase after its Seal
      phase_at : (infos : List NodeInfo) (p : ℕ) (ph : Phase) (shape : OpShape)
          → p < length infos → Held (λ n i. InfoIs (plan_of g) (site_of g n) n i) infos
          → ((d : NodeInfo) → shape ≡ (slice_index_or infos p d).shape) → ph ≡ phase_after_seal_of shape.streams shape.tails
          → ph ≡ phase_after_seal_of ((plan_of g).node (suc p)).streams ((plan_of g).node (suc p)).tails
      phase_at infos p ph shape within h shape_is is =
          let d = some_of p infos within in
          let i = h p d within in
          let streams : shape.streams ≡ ((plan_of g).node (suc p)).streams = ap (λ (x : OpShape). x.streams) (shape_is d) ∙ sym i.streams in
          let tails : shape.tails ≡ ((plan_of g).node (suc p)).tails = ap (λ (x : OpShape). x.tails) (shape_is d) ∙ sym i.tails in
          is ∙ ap (λ (x : Bool). phase_after_seal_of x shape.tails) streams ∙ ap (λ (x : Bool). phase_after_seal_of ((plan_of g).node (suc p)).streams x) tails

      pub seal_delivered : (es : List Entry) (infos : List NodeInfo) (stages stages1 stages' : List Stage) (queues : List Queue) (rows rows' : List (List (Option (Share O S L)))) (row : Vec (Option (Share O S L)) Global) (seats seats' : List (Option Flight)) (failed : Bool) (count count' room capacity capacity' w n given : ℕ) (ph : Phase) (shape : OpShape)
          → Stands meaning local_is shared_is g es infos stages queues rows seats failed count room capacity
          → Brings meaning local_is shared_is (record { given = g; history = es; room = room }) w n (fruit.Seal row given)
          → ((d : NodeInfo) → shape ≡ (slice_index_or infos (n - 1) d).shape) → ph ≡ phase_after_seal_of shape.streams shape.tails
          → seats' ≡ slice_set seats (w - 1) None
          → ((d : Stage) → stages1 ≡ slice_set stages (n - 1) (less_busy (slice_index_or stages (n - 1) d)))
          → ((d : Stage) → stages' ≡ slice_set stages1 (n - 1) (in_phase (slice_index_or stages1 (n - 1) d) ph given))
          → rows' ≡ slice_set rows (n - 1) row.items
          → count' ≡ count - 1 → capacity' ≡ capacity
          → Stands meaning local_is shared_is g (es ++ Deliver w ∷ []) infos stages' queues rows' seats' failed count' room capacity'
      seal_delivered es infos stages stages1 stages' queues rows rows' row seats seats' failed count count' room capacity capacity' w n given ph shape h b shape_is ph_is seats_set stages1_set stages_set rows_set less same =
          let P = plan_of g in
          let p = n - 1 in
          let at = placed meaning local_is shared_is (record { given = g; history = es; room = room }) w n (fruit.Seal row given) h.legal b in
          let node : IsNode P (suc p) = subst (λ m. IsNode P m) (sym at.at_node) at.node in
          let f = at.brings in
          let t : Task (List Value) = record at.task { node = suc p } in
          let k = lands P h.lawful h.well es h.legal (suc (w - 1)) (suc p) t f.worker f.flies refl f.kept in
          let all = h.stored.all_infos in
          let all' = h.stored.all_stages in
          let upper = node.1 in
          let within : p < length infos = omega arith in
          let within' : p < length stages = omega arith in
          subst (λ v. Stands meaning local_is shared_is g (es ++ Deliver v ∷ []) infos stages' queues rows' seats' failed count' room capacity') at.at_worker
          (seal_at es infos stages stages' queues rows rows' row.items seats seats' failed count count' room capacity capacity' (w - 1) p given ph at.task h f.worker f.flies node k f.fruit.0
          (after_landed meaning local_is shared_is g es (suc (w - 1)) (suc p) t f.flies refl f.kept ∙ ap (landed P (state_after P es) (suc (w - 1)) t) f.fruit.0)
          f.fruit.1 f.fruit.2
          (phase_at infos p ph shape within h.stored.infos_are shape_is ph_is)
          seats_set (written_twice stages stages1 stages' p less_busy (λ st. in_phase st ph given) within' stages1_set stages_set) rows_set less same)
