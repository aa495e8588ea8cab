-- An edge goes on.
use Rattle.std.proofs.Common.{◌≡◌, ℕ, suc, ◌+◌, ◌-◌, ◌<◌, ◌≤◌, Bool, false, List, [], ◌∷◌, ◌++◌, length, Option, sym, subst, arith, slice_index_or, slice_set}
use Rattle.scalar_value.specs.declared.value.Value.{Value}
use Rattle.scalar_value.specs.declared.value.ColType.{ColType}
use Rattle.plan_machine.specs.declared.entry.Entry.{Entry}
use Rattle.plan_machine.specs.declared.entry.Entry.TheVariants.{Resume}
use Rattle.plan_machine.specs.Batch.{Batch}
use Rattle.plan_machine.specs.Enabled.{Enabled}
use Rattle.plan_machine.specs.After.{after}
use Rattle.plan_machine.specs.History.{state_after}
use Rattle.plan_nodes.specs.Operators.{OpMeaning}
use Rattle.task_work.specs.declared.work.Share.{Share}
use Rattle.plan_store.specs.declared.queue.Queue.{Queue}
use Rattle.plan_store.specs.declared.stage.Stage.{Stage}
use Rattle.plan_store.specs.declared.stage.NodeInfo.{NodeInfo}
use Rattle.plan_store.specs.declared.stage.Flight.{Flight}
use Rattle.plan_store.specs.Told.{Given, plan_of}
use Rattle.run_state.specs.Stored.{Stands}
use Rattle.plan_store.specs.Queues.{with_paused}
use Rattle.plan_store.proofs.At.{some_of}
use Rattle.run_state.proofs.Growing.{with_most, standing}
use Rattle.run_state.proofs.Pausing.{stored_paused, most_stays}

module _ {O S L : Type 0}
    (meaning : O → OpMeaning)
    (local_is : OpMeaning → List ColType → L → List (Batch (List Value)) → Type 0)
    (shared_is : OpMeaning → List (List ColType) → S → List (List Value) → List (Batch (List Value)) → Type 0)
    (g : Given)
  where
    after_resume_at : (es : List Entry) (infos : List NodeInfo) (stages : List Stage) (queues queues' : List Queue) (rows : List (List (Option (Share O S L)))) (seats : List (Option Flight)) (failed : Bool) (flying room room' capacity capacity' : ℕ) (p : ℕ)
        → Stands meaning local_is shared_is g es infos stages queues rows seats failed flying room capacity
        → Enabled (plan_of g) (state_after (plan_of g) es) (Resume (suc p))
        → ((d : Queue) → queues' ≡ slice_set queues p (with_paused (slice_index_or queues p d) false))
        → room' + 1 ≤ room → capacity' ≡ capacity
        → Stands meaning local_is shared_is g (es ++ Resume (suc p) ∷ []) infos stages queues' rows seats failed flying room' capacity'
    unfolding after
    after_resume_at es infos stages queues queues' rows seats failed flying room room' capacity capacity' p h can set less same =
        let s = state_after (plan_of g) es in
        let within : p < length queues = let all = h.stored.all_queues in let edge = can.1.0 in omega arith in
        let d = some_of p queues within in
        subst (λ qs. Stands meaning local_is shared_is g (es ++ Resume (suc p) ∷ []) infos stages qs rows seats failed flying room' capacity') (sym (set d))
        (standing meaning local_is shared_is g es (Resume (suc p)) infos infos stages stages queues (slice_set queues p (with_paused (slice_index_or queues p d) false)) rows rows seats seats failed failed flying flying room room' capacity capacity' h can
        (with_most meaning local_is shared_is g (after (plan_of g) s (Resume (suc p))) _ _ infos stages _ rows seats failed flying (most_stays meaning local_is shared_is g es)
        (stored_paused meaning local_is shared_is g s _ infos stages queues rows seats failed flying p false d within h.stored))
        (let f = h.fits in omega arith))

    pub after_resume : (es : List Entry) (infos : List NodeInfo) (stages : List Stage) (queues queues' : List Queue) (rows : List (List (Option (Share O S L)))) (seats : List (Option Flight)) (failed : Bool) (flying room room' capacity capacity' : ℕ) (e : ℕ)
        → Stands meaning local_is shared_is g es infos stages queues rows seats failed flying room capacity
        → Enabled (plan_of g) (state_after (plan_of g) es) (Resume e)
        → ((d : Queue) → queues' ≡ slice_set queues (e - 1) (with_paused (slice_index_or queues (e - 1) d) false))
        → room' + 1 ≤ room → capacity' ≡ capacity
        → Stands meaning local_is shared_is g (es ++ Resume e ∷ []) infos stages queues' rows seats failed flying room' capacity'
    after_resume es infos stages queues queues' rows seats failed flying room room' capacity capacity' e h can set less same =
        let edge : 1 ≤ e = can.1.0.0 in
        let at : suc (e - 1) ≡ e = omega arith in
        subst (λ n. Stands meaning local_is shared_is g (es ++ Resume n ∷ []) infos stages queues' rows seats failed flying room' capacity') at
        (after_resume_at es infos stages queues queues' rows seats failed flying room room' capacity capacity' (e - 1) h
        (subst (λ n. Enabled (plan_of g) (state_after (plan_of g) es) (Resume n)) (sym at) can) set less same)
