-- A delivery of a Close.
use Rattle.std.proofs.Common.{◌≡◌, ℕ, suc, ◌-◌, ◌<◌, Bool, nat_eq, List, [], ◌∷◌, ◌++◌, length, Option, Some, None, refl, sym, ap, subst, ◌∙◌, arith, slice_index_or, slice_set, Vec}
use Rattle.std.specs.declared.alloc.Global.{Global}
use Rattle.scalar_value.specs.declared.value.Value.{Value}
use Rattle.scalar_value.specs.declared.value.ColType.{ColType}
use Rattle.plan_machine.specs.declared.entry.Phase.{Phase}
use Rattle.plan_machine.specs.declared.entry.Phase.TheVariants.{Tailing}
use Rattle.plan_machine.specs.declared.entry.Job.{Job}
use Rattle.plan_machine.specs.declared.entry.Job.TheVariants.{Close}
use Rattle.plan_machine.specs.declared.entry.Entry.{Entry}
use Rattle.plan_machine.specs.declared.entry.Entry.TheVariants.{Deliver}
use Rattle.plan_machine.specs.Lists.{upd}
use Rattle.plan_machine.specs.Batch.{Batch, parts, rows_of}
use Rattle.plan_machine.specs.Plan.{IsNode, IsWorker}
use Rattle.plan_machine.specs.State.{Task}
use Rattle.plan_machine.specs.InFlight.{TaskFits}
use Rattle.plan_machine.specs.After.{after, landed}
use Rattle.plan_machine.specs.History.{state_after}
use Rattle.plan_machine.proofs.Weigh.{upd-here, upd-else}
use Rattle.plan_machine.proofs.Flight.{flying}
use Rattle.plan_nodes.specs.Operators.{OpMeaning, first_of, end_count}
use Rattle.task_work.specs.declared.work.Share.{Share}
use Rattle.task_work.specs.declared.work.Fruit.TheVariants as fruit
use Rattle.task_work.specs.Work.{IsShared, IsRow}
use Rattle.plan_store.specs.declared.queue.Queue.{Queue}
use Rattle.plan_store.specs.declared.stage.Stage.{Stage}
use Rattle.plan_store.specs.declared.stage.NodeInfo.{NodeInfo}
use Rattle.plan_store.specs.declared.stage.Flight.{Flight}
use Rattle.plan_store.specs.Told.{Given, plan_of, site_of}
use Rattle.run_state.specs.Stored.{StageIs, Stands}
use Rattle.plan_store.specs.Putting.{less_busy}
use Rattle.plan_store.specs.Putting.{in_phase}
use Rattle.plan_store.proofs.At.{some_of}
use Rattle.run_state.proofs.Delivering.{RowAt, stage_landed, departing}
use Rattle.run_state.proofs.Landed.{Lands, lands, after_landed}
use Rattle.run_state.proofs.Bringing.{Brings, placed}
use Rattle.run_state.proofs.BringSeal.{ends_in}
use Rattle.run_state.proofs.Whole.{written_twice, row_new, whole_at}

module _ {O S L : Type 0}
    (meaning : O → OpMeaning)
    (local_is : OpMeaning → List ColType → L → List (Batch (List Value)) → Type 0)
    (shared_is : OpMeaning → List (List ColType) → S → List (List Value) → List (Batch (List Value)) → Type 0)
    (g : Given)
  where
    close_at : (es : List Entry) (infos : List NodeInfo) (stages stages' : List Stage) (queues : List Queue) (rows rows' : List (List (Option (Share O S L)))) (row : List (Option (Share O S L))) (seats seats' : List (Option Flight)) (failed : Bool) (count count' room capacity capacity' q p given : ℕ) (t0 : Task (List Value))
        → Stands meaning local_is shared_is g es infos stages queues rows seats failed count room capacity
        → IsWorker (plan_of g) (suc q) → (state_after (plan_of g) es).tasks (suc q) ≡ Some (record t0 { node = suc p })
        → Lands (plan_of g) (state_after (plan_of g) es) (suc q) (suc p) (record t0 { node = suc p })
        → t0.job ≡ Close
        → after (plan_of g) (state_after (plan_of g) es) (Deliver (suc q)) ≡ landed (plan_of g) (state_after (plan_of g) es) (suc q) (record t0 { node = suc p }) Close
        → IsRow meaning local_is shared_is (site_of g (suc p)) (first_of (site_of g (suc p)).inputs) [] t0.built t0.took row
        → given ≡ end_count (site_of g (suc p)).meaning t0.built t0.took
        → seats' ≡ slice_set seats q None
        → ((d : Stage) → stages' ≡ slice_set stages p (in_phase (less_busy (slice_index_or stages p d)) Tailing given))
        → rows' ≡ slice_set rows p row
        → count' ≡ count - 1 → capacity' ≡ capacity
        → Stands meaning local_is shared_is g (es ++ Deliver (suc q) ∷ []) infos stages' queues rows' seats' failed count' room capacity'
    close_at es infos stages stages' queues rows rows' row seats seats' failed count count' room capacity capacity' q p given t0 h worker flies k job is row_is count_is seats_set stages_set rows_set less same =
        let P = plan_of g in
        let s = state_after P es in
        let t : Task (List Value) = record t0 { node = suc p } in
        let v = site_of g (suc p) in
        let took : List (Batch (List Value)) = t0.took in
        let fits : TaskFits P s (suc p) (suc q) t Close = subst (λ (j : Job). TaskFits P s (suc p) (suc q) t j) job k.fits in
        let phase' : ℕ → Phase = upd s.phase (suc p) Tailing in
        let streamed' : ℕ → List (Batch (List Value)) = upd s.streamed (suc p) took in
        let phase_here : phase' (suc p) ≡ Tailing = upd-here s.phase (suc p) Tailing in
        let streamed_here : streamed' (suc p) ≡ took = upd-here s.streamed (suc p) took in
        let ready = departing meaning local_is shared_is g es infos stages queues rows seats failed count room capacity (suc q) (suc p) t h worker flies refl in
        let within : p < length stages = let place = ready.place in omega arith in
        let d = some_of p stages within in
        let st = slice_index_or stages p d in
        let old = stage_landed meaning local_is shared_is g s stages q p t d worker flies refl within h.stored.stages_are in
        let row_at : RowAt meaning local_is shared_is g (suc p) s.failed Tailing (s.locals (suc p)) (s.built (suc p)) took (upd s.tasks (suc q) None) row =
        row_new meaning local_is shared_is v (nat_eq (suc p) P.sink) s.failed Tailing (s.locals (suc p)) (s.built (suc p)) t0.built took took (upd s.tasks (suc q) None) (suc p) (first_of v.inputs) row row_is
        (λ m part lt is_part. subst (λ (x : List (List Value)). IsShared meaning local_is shared_is v x took part) k.built is_part.is_shared) in
        let stage_at : StageIs P (suc p) Tailing (s.next (suc p)) (s.built (suc p)) took (length (flying P (upd s.tasks (suc q) None) (suc p))) (in_phase (less_busy st) Tailing given) =
        record {
          is_phase = refl;
          is_next = old.is_next;
          emits = λ e. cc;
          ends = λ e.
              subst (λ (x : List (List Value)). given ≡ parts P.batch ((P.node (suc p)).rest x (rows_of took))) k.built
              (ends_in g (suc p) t0.built took given fits.3 count_is);
          busy = old.busy;
        } in
        whole_at meaning local_is shared_is g es phase' s.built streamed' infos stages stages' queues rows rows' row seats seats' failed count count' room capacity capacity' q p t (in_phase (less_busy st) Tailing given) h worker flies refl
        is
        (record { phases = λ n ne. upd-else s.phase (suc p) Tailing n ne; lists = λ n ne. refl; builds = λ n ne. refl; streams = λ n ne. upd-else s.streamed (suc p) took n ne })
        (subst (λ (x : Phase). StageIs P (suc p) x (s.next (suc p)) (s.built (suc p)) (streamed' (suc p)) (length (flying P (upd s.tasks (suc q) None) (suc p))) (in_phase (less_busy st) Tailing given)) (sym phase_here)
        (subst (λ (x : List (Batch (List Value))). StageIs P (suc p) Tailing (s.next (suc p)) (s.built (suc p)) x (length (flying P (upd s.tasks (suc q) None) (suc p))) (in_phase (less_busy st) Tailing given)) (sym streamed_here) stage_at))
        (subst (λ (x : Phase). RowAt meaning local_is shared_is g (suc p) s.failed x (s.locals (suc p)) (s.built (suc p)) (streamed' (suc p)) (upd s.tasks (suc q) None) row) (sym phase_here)
        (subst (λ (x : List (Batch (List Value))). RowAt meaning local_is shared_is g (suc p) s.failed Tailing (s.locals (suc p)) (s.built (suc p)) x (upd s.tasks (suc q) None) row) (sym streamed_here) row_at))
        seats_set (stages_set d) rows_set less same

    pub close_delivered : (es : List Entry) (infos : List NodeInfo) (stages stages1 stages' : List Stage) (queues : List Queue) (rows rows' : List (List (Option (Share O S L)))) (row : Vec (Option (Share O S L)) Global) (seats seats' : List (Option Flight)) (failed : Bool) (count count' room capacity capacity' w n given : ℕ)
        → Stands meaning local_is shared_is g es infos stages queues rows seats failed count room capacity
        → Brings meaning local_is shared_is (record { given = g; history = es; room = room }) w n (fruit.Close row given)
        → seats' ≡ slice_set seats (w - 1) None
        → ((d : Stage) → stages1 ≡ slice_set stages (n - 1) (less_busy (slice_index_or stages (n - 1) d)))
        → ((d : Stage) → stages' ≡ slice_set stages1 (n - 1) (in_phase (slice_index_or stages1 (n - 1) d) Tailing given))
        → rows' ≡ slice_set rows (n - 1) row.items
        → count' ≡ count - 1 → capacity' ≡ capacity
        → Stands meaning local_is shared_is g (es ++ Deliver w ∷ []) infos stages' queues rows' seats' failed count' room capacity'
    close_delivered es infos stages stages1 stages' queues rows rows' row seats seats' failed count count' room capacity capacity' w n given h b seats_set stages1_set stages_set rows_set less same =
        let P = plan_of g in
        let p = n - 1 in
        let at = placed meaning local_is shared_is (record { given = g; history = es; room = room }) w n (fruit.Close row given) h.legal b in
        let node : IsNode P (suc p) = subst (λ m. IsNode P m) (sym at.at_node) at.node in
        let f = at.brings in
        let t : Task (List Value) = record at.task { node = suc p } in
        let k = lands P h.lawful h.well es h.legal (suc (w - 1)) (suc p) t f.worker f.flies refl f.kept in
        let all = h.stored.all_stages in
        let upper = node.1 in
        let within : p < length stages = omega arith in
        subst (λ v. Stands meaning local_is shared_is g (es ++ Deliver v ∷ []) infos stages' queues rows' seats' failed count' room capacity') at.at_worker
        (close_at es infos stages stages' queues rows rows' row.items seats seats' failed count count' room capacity capacity' (w - 1) p given at.task h f.worker f.flies k f.fruit.0
        (after_landed meaning local_is shared_is g es (suc (w - 1)) (suc p) t f.flies refl f.kept ∙ ap (landed P (state_after P es) (suc (w - 1)) t) f.fruit.0)
        f.fruit.1 f.fruit.2
        seats_set (written_twice stages stages1 stages' p less_busy (λ st. in_phase st Tailing given) within stages1_set stages_set) rows_set less same)
