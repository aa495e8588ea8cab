-- A delivery of a Fold.
use Rattle.std.proofs.Common.{◌≡◌, ℕ, suc, ◌-◌, Bool, nat_eq, List, [], ◌∷◌, ◌++◌, Option, Some, None, refl, sym, ap, subst, ◌∙◌, arith, slice_index_or, slice_set}
use Rattle.scalar_value.specs.declared.value.Value.{Value}
use Rattle.scalar_value.specs.declared.value.ColType.{ColType}
use Rattle.plan_machine.specs.declared.entry.Phase.{Phase}
use Rattle.plan_machine.specs.declared.entry.Job.TheVariants.{Fold}
use Rattle.plan_machine.specs.declared.entry.Entry.{Entry}
use Rattle.plan_machine.specs.declared.entry.Entry.TheVariants.{Deliver}
use Rattle.plan_machine.specs.Lists.{upd}
use Rattle.plan_machine.specs.Batch.{Batch}
use Rattle.plan_machine.specs.State.{Task}
use Rattle.plan_machine.specs.InFlight.{phase_of}
use Rattle.plan_machine.specs.After.{landed}
use Rattle.plan_machine.specs.History.{state_after}
use Rattle.plan_machine.proofs.Weigh.{upd-here, upd-else}
use Rattle.plan_nodes.specs.Operators.{OpMeaning, folded_of}
use Rattle.task_work.specs.declared.work.Share.{Share}
use Rattle.task_work.specs.declared.work.Share.TheVariants as share
use Rattle.task_work.specs.declared.work.Part.{Part}
use Rattle.task_work.specs.declared.work.Fruit.TheVariants as fruit
use Rattle.task_work.specs.Work.{IsPart}
use Rattle.plan_store.specs.declared.queue.Queue.{Queue}
use Rattle.plan_store.specs.declared.stage.Stage.{Stage}
use Rattle.plan_store.specs.declared.stage.NodeInfo.{NodeInfo}
use Rattle.plan_store.specs.declared.stage.Flight.{Flight}
use Rattle.plan_store.specs.Told.{Given, plan_of, site_of}
use Rattle.run_state.specs.Stored.{PartStands, takes_all, Stands}
use Rattle.plan_store.specs.Putting.{less_busy}
use Rattle.run_state.proofs.Growing.{with_most}
use Rattle.run_state.proofs.Delivering.{peaks, peak_stays}
use Rattle.run_state.proofs.Landed.{lands, after_landed, put_at}
use Rattle.run_state.proofs.Bringing.{Brings, BringsAt, placed}

module _ {O S L : Type 0}
    (meaning : O → OpMeaning)
    (local_is : OpMeaning → List ColType → L → List (Batch (List Value)) → Type 0)
    (shared_is : OpMeaning → List (List ColType) → S → List (List Value) → List (Batch (List Value)) → Type 0)
    (g : Given)
  where
    fold_at : (es : List Entry) (infos : List NodeInfo) (stages stages' : List Stage) (queues : List Queue) (rows rows' : List (List (Option (Share O S L)))) (seats seats' : List (Option Flight)) (failed : Bool) (count count' room capacity capacity' q p : ℕ) (t0 : Task (List Value)) (part : Part O S L) (index size : ℕ)
        → Stands meaning local_is shared_is g es infos stages queues rows seats failed count room capacity
        → BringsAt meaning local_is shared_is (record { given = g; history = es; room = room }) q p (fruit.Fold part index size) t0
        → seats' ≡ slice_set seats q None
        → ((d : Stage) → stages' ≡ slice_set stages p (less_busy (slice_index_or stages p d)))
        → ((d : List (Option (Share O S L))) → rows' ≡ slice_set rows p (slice_set (slice_index_or rows p d) q (Some (share.Part part))))
        → count' ≡ count - 1 → capacity' ≡ capacity
        → Stands meaning local_is shared_is g (es ++ Deliver (suc q) ∷ []) infos stages' queues rows' seats' failed count' room capacity'
    fold_at es infos stages stages' queues rows rows' seats seats' failed count count' room capacity capacity' q p t0 part index size h b seats_set stages_set rows_set less same =
        let P = plan_of g in
        let s = state_after P es in
        let t : Task (List Value) = record t0 { node = suc p } in
        let job : t.job ≡ Fold = b.fruit.0 in
        let k = lands P h.lawful h.well es h.legal (suc q) (suc p) t b.worker b.flies refl b.kept in
        let list : List (Batch (List Value)) = t.took ++ t.batch ∷ [] in
        let locals : ℕ → ℕ → List (Batch (List Value)) = upd s.locals (suc p) (upd (s.locals (suc p)) (suc q) list) in
        let row_is : locals (suc p) ≡ upd (s.locals (suc p)) (suc q) list = upd-here s.locals (suc p) (upd (s.locals (suc p)) (suc q) list) in
        let list_is : locals (suc p) (suc q) ≡ list = ap (λ (f : ℕ → List (Batch (List Value))). f (suc q)) row_is ∙ upd-here (s.locals (suc p)) (suc q) list in
        put_at meaning local_is shared_is g es locals (upd s.folded (suc p) (s.folded (suc p) ++ t.batch ∷ [])) s.waiting infos stages stages' queues queues rows rows' seats seats' failed count count' room capacity capacity' q p t (share.Part part) h b.worker b.flies refl k
        (ap takes_all job)
        (after_landed meaning local_is shared_is g es (suc q) (suc p) t b.flies refl b.kept ∙ ap (landed P s (suc q) t) job)
        (λ n ne. upd-else s.locals (suc p) (upd (s.locals (suc p)) (suc q) list) n ne)
        (λ m ne. ap (λ (f : ℕ → List (Batch (List Value))). f (suc m)) row_is ∙ upd-else (s.locals (suc p)) (suc q) list (suc m) (λ e. ne (omega arith)))
        (subst (λ (x : Phase). PartStands meaning local_is shared_is (site_of g (suc p)) (nat_eq (suc p) (plan_of g).sink) x (locals (suc p) (suc q)) t.built t.streamed (share.Part part)) (sym (ap phase_of job))
        (subst (λ x. IsPart meaning local_is shared_is (site_of g (suc p)) (folded_of (site_of g (suc p)).meaning (site_of g (suc p)).inputs) x t.built [] part) (sym list_is) b.fruit.1))
        refl
        (with_most meaning local_is shared_is g s (peaks meaning local_is shared_is g es) _ infos stages queues rows seats failed count (peak_stays meaning local_is shared_is g es) h.stored).queues_are
        seats_set stages_set rows_set less same

    pub after_fold : (es : List Entry) (infos : List NodeInfo) (stages stages' : List Stage) (queues : List Queue) (rows rows' : List (List (Option (Share O S L)))) (seats seats' : List (Option Flight)) (failed : Bool) (count count' room capacity capacity' w n : ℕ) (part : Part O S L) (index size : ℕ)
        → Stands meaning local_is shared_is g es infos stages queues rows seats failed count room capacity
        → Brings meaning local_is shared_is (record { given = g; history = es; room = room }) w n (fruit.Fold part index size)
        → seats' ≡ slice_set seats (w - 1) None
        → ((d : Stage) → stages' ≡ slice_set stages (n - 1) (less_busy (slice_index_or stages (n - 1) d)))
        → ((d : List (Option (Share O S L))) → rows' ≡ slice_set rows (n - 1) (slice_set (slice_index_or rows (n - 1) d) (w - 1) (Some (share.Part part))))
        → count' ≡ count - 1 → capacity' ≡ capacity
        → Stands meaning local_is shared_is g (es ++ Deliver w ∷ []) infos stages' queues rows' seats' failed count' room capacity'
    after_fold es infos stages stages' queues rows rows' seats seats' failed count count' room capacity capacity' w n part index size h b seats_set stages_set rows_set less same =
        let at = placed meaning local_is shared_is (record { given = g; history = es; room = room }) w n (fruit.Fold part index size) h.legal b in
        subst (λ v. Stands meaning local_is shared_is g (es ++ Deliver v ∷ []) infos stages' queues rows' seats' failed count' room capacity') at.at_worker
        (fold_at es infos stages stages' queues rows rows' seats seats' failed count count' room capacity capacity' (w - 1) (n - 1) at.task part index size h at.brings seats_set stages_set rows_set less same)
