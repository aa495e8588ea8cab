-- How a run stands, by what is stored.
use Rattle.std.proofs.Common.{◌≡◌, ℕ, zero, suc, ◌-◌, ◌<◌, ◌≤◌, Bool, true, false, cond, nat_lt, List, length, ◌↔◌, inl, inr, Option, Some, None, refl, sym, ap, subst, ◌∙◌, arith, slice_index_or, lt-ltb, ltb-true}
use Rattle.std.proofs.lemmas.Bool.{cases_lt}
use Rattle.scalar_value.specs.declared.value.Value.{Value}
use Rattle.scalar_value.specs.declared.value.ColType.{ColType}
use Rattle.plan_machine.specs.declared.entry.Phase.{Phase}
use Rattle.plan_machine.specs.declared.entry.Phase.TheVariants.{Emitting, Folding, Streaming, Tailing, Sealed, Done}
use Rattle.plan_machine.specs.declared.entry.Entry.{Entry}
use Rattle.plan_machine.specs.Lists.{sum_to}
use Rattle.plan_machine.specs.Batch.{Batch}
use Rattle.plan_machine.specs.Plan.{Plan as MachinePlan}
use Rattle.plan_machine.specs.State.{State, Task, NothingInFlight}
use Rattle.plan_machine.specs.After.{is_done}
use Rattle.plan_machine.specs.History.{state_after, IsEnded, HasFailed}
use Rattle.plan_machine.proofs.Sums.{sum_same}
use Rattle.plan_machine.proofs.Weigh.{same_or}
use Rattle.plan_nodes.specs.Operators.{OpMeaning}
use Rattle.task_work.specs.declared.work.Share.{Share}
use Rattle.plan_store.specs.declared.queue.Queue.{Queue}
use Rattle.plan_store.specs.declared.setting.Ending.{Ending}
use Rattle.plan_store.specs.declared.setting.Ending.TheVariants.{Running, Ended, Failed}
use Rattle.plan_store.specs.declared.stage.Stage.{Stage}
use Rattle.plan_store.specs.declared.stage.NodeInfo.{NodeInfo}
use Rattle.plan_store.specs.declared.stage.Flight.{Flight}
use Rattle.plan_store.specs.Told.{Given, plan_of}
use Rattle.run_state.specs.Stored.{Stands, in_flight}
use Rattle.run_state.specs.Outcome.{ending_by}

-- each of the numbers up to n has a part in the sum
sum_has : (n w : ℕ) (f : ℕ → ℕ) → 1 ≤ w → w ≤ n → f w ≤ sum_to n f
sum_has zero w f lo hi = absurd (omega arith)
sum_has (suc n) w f lo hi =
    let rest : w ≤ n → f w ≤ sum_to n f = λ up. sum_has n w f lo up in
    elim (same_or w (suc n)) [ inl e ↦ let a = ap f e in omega arith | inr ne ↦ let a = rest (omega arith) in omega arith ]

sum_none : (n : ℕ) → sum_to n (λ _. 0) ≡ 0
sum_none zero = refl
sum_none (suc n) = let a = sum_none n in omega arith

in_none : (o : Option (Task (List Value))) → in_flight o ≡ 0 → o ≡ None
in_none None e = refl
in_none (Some t) e = absurd (omega arith)

module _ (P : MachinePlan (List Value)) (s : State (List Value)) where
  none_flies : sum_to P.workers (λ w. in_flight (s.tasks w)) ≡ 0 → NothingInFlight P s
  none_flies z w i = in_none (s.tasks w) (let a = sum_has P.workers w (λ v. in_flight (s.tasks v)) i.0 i.1 in omega arith)

  flies_none : NothingInFlight P s → sum_to P.workers (λ w. in_flight (s.tasks w)) ≡ 0
  flies_none none = sum_same P.workers (λ w. in_flight (s.tasks w)) (λ _. 0) (λ w lo hi. ap in_flight (none w (lo, hi))) ∙ sum_none P.workers

  phase_done : (p : Phase) → is_done p ≡ true → p ≡ Done
  phase_done Emitting e = cc
  phase_done Folding e = cc
  phase_done Streaming e = cc
  phase_done Tailing e = cc
  phase_done Sealed e = cc
  phase_done Done e = refl

  abbrev pub Tells : Ending → Type 0
  Tells r = ((r ≡ Ended) ↔ IsEnded P s) × ((r ≡ Failed) ↔ HasFailed P s)

  tells_done : (d : Bool) → is_done (s.phase P.sink) ≡ d → s.failed ≡ false → NothingInFlight P s → Tells (cond d Ended Running)
  tells_done true e ok none = (
    (λ _. record { done = phase_done (s.phase P.sink) e; sound = ok; idle = none }, λ _. refl),
    (λ q. let no : Ended ≡ Failed = q in cc, λ h. let no = sym ok ∙ h.failed in cc),
  )
  tells_done false e ok none = (
    (λ q. let no : Running ≡ Ended = q in cc, λ h. let no = sym e ∙ ap is_done h.done in cc),
    (λ q. let no : Running ≡ Failed = q in cc, λ h. let no = sym ok ∙ h.failed in cc),
  )

  tells_failed : (b : Bool) → s.failed ≡ b → NothingInFlight P s → Tells (cond b Failed (cond (is_done (s.phase P.sink)) Ended Running))
  tells_failed true e none = (
    (λ q. let no : Failed ≡ Ended = q in cc, λ h. let no = sym e ∙ h.sound in cc),
    (λ _. record { failed = e; idle = none }, λ _. refl),
  )
  tells_failed false e none = tells_done (is_done (s.phase P.sink)) refl e none

  tells_flying : (b : Bool) (flying : ℕ) → nat_lt 0 flying ≡ b → flying ≡ sum_to P.workers (λ w. in_flight (s.tasks w)) → Tells (cond b Running (cond s.failed Failed (cond (is_done (s.phase P.sink)) Ended Running)))
  tells_flying true flying e same =
      let some = ltb-true 0 flying e in (
        (λ q. let no : Running ≡ Ended = q in cc, λ h. let z = flies_none h.idle in absurd (omega arith)),
        (λ q. let no : Running ≡ Failed = q in cc, λ h. let z = flies_none h.idle in absurd (omega arith)),
      )
  tells_flying false flying e same =
      let none : flying ≡ 0 = elim (cases_lt 0 flying) [ inl lt ↦ let no = sym e ∙ lt-ltb 0 flying lt in cc | inr le ↦ omega arith ] in
      tells_failed s.failed refl (none_flies (sym same ∙ none))

module _ {O S L : Type 0}
    (meaning : O → OpMeaning)
    (local_is : OpMeaning → List ColType → L → List (Batch (List Value)) → Type 0)
    (shared_is : OpMeaning → List (List ColType) → S → List (List Value) → List (Batch (List Value)) → Type 0)
    (g : Given)
  where
    pub ending_is : (es : List Entry) (infos : List NodeInfo) (stages : List Stage) (queues : List Queue) (rows : List (List (Option (Share O S L)))) (seats : List (Option Flight)) (failed : Bool) (flying room capacity k : ℕ) (d : Stage) (r : Ending)
        → Stands meaning local_is shared_is g es infos stages queues rows seats failed flying room capacity
        → k ≡ length stages - 1 → d ≡ slice_index_or stages k d
        → r ≡ ending_by flying failed d.phase
        → Tells (plan_of g) (state_after (plan_of g) es) r
    ending_is es infos stages queues rows seats failed flying room capacity k d r h last at is =
        let P = plan_of g in
        let s = state_after P es in
        let some = h.well.sink_node in
        let all = h.stored.all_stages in
        let within : k < length stages = omega arith in
        let node : suc k ≡ P.sink = omega arith in
        let phase : d.phase ≡ s.phase P.sink = ap (λ (x : Stage). x.phase) at ∙ ((h.stored.stages_are k d within).is_phase ∙ ap s.phase node) in
        let same : ending_by flying failed d.phase ≡ ending_by flying s.failed (s.phase P.sink) = ap (λ b. ending_by flying b d.phase) h.stored.failed_is ∙ ap (ending_by flying s.failed) phase in
        subst (λ x. Tells P s x) (sym (is ∙ same)) (tells_flying P s (nat_lt 0 flying) flying refl h.stored.flying_is)
