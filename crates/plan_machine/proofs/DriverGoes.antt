-- Until the run has ended there is something to do.
use Rattle.std.proofs.Common.{◌≡◌, ℕ, Bool, true, false, ◌⊎◌, List, inl, inr, refl, ◌∙◌, ap, Option, Some, None}
use Rattle.std.proofs.lemmas.Bool.{cases_eq}
use Rattle.plan_machine.specs.declared.entry.Job.{Job}
use Rattle.plan_machine.specs.declared.entry.Entry.{Entry}
use Rattle.plan_machine.specs.declared.entry.Entry.TheVariants.{Claim, Deliver, Pause, Resume, Finish, Stop, Fail}
use Rattle.plan_machine.specs.Upkeep.{IsUpkeep}
use Rattle.plan_machine.specs.Plan.{Plan, IsWorker}
use Rattle.plan_machine.specs.State.{State, Task, NothingInFlight, opening}
use Rattle.plan_machine.specs.Enabled.{Enabled}
use Rattle.plan_machine.specs.History.{IsHistory, state_after, IsEnded, HasFailed}
use Rattle.plan_machine.specs.Driver.{NoUpkeep, CanWork, IsDriverEntry, IsDrivenFrom, IsUpkeepChoice, IsClaimChoice}
use Rattle.plan_machine.specs.WellFormed.{WellFormed}
use Rattle.plan_machine.proofs.StuckWalk.{never_stuck_history}
use Rattle.plan_machine.proofs.DriverHistory.{Alone, driven_alone, driven_legal, opening_alone}
use Rattle.plan_machine.proofs.DriverUpkeep.{upkeep_or_none}
use Rattle.plan_machine.proofs.DriverClaim.{first_claim}

module _ {R : Type 0} (P : Plan R) where
  pub alone : (es : List Entry) → IsDrivenFrom P es (opening P) → Alone P (state_after P es)
  alone es d = driven_alone P es (opening P) d (opening_alone P)

  pub nothing_in_flight : (s : State R) → Alone P s → s.tasks 1 ≡ None → NothingInFlight P s
  nothing_in_flight s a free w at = go (cases_eq w 1)
    where
      go : (w ≡ 1) ⊎ (w ≡ 1 → ⊥) → s.tasks w ≡ None
      go (inl e) = ap s.tasks e ∙ free
      go (inr ne) = a.others w ne

  pub can_claim : WellFormed P → IsWorker P 1 → (es : List Entry) → IsDrivenFrom P es (opening P) → (IsEnded P (state_after P es) → ⊥) → (state_after P es).tasks 1 ≡ None → NoUpkeep P (state_after P es) → CanWork P (state_after P es) 1
  can_claim well at es d on free quiet =
      let a = alone es d in
      let idle = nothing_in_flight (state_after P es) a free in
      never_stuck_history P well es (driven_legal P es (opening P) d) a.sound (λ done. on (record { done = done; sound = a.sound; idle = idle })) idle quiet 1 at

  upkeep_entry : (s : State R) (x : Entry) → IsUpkeep x → s.tasks 1 ≡ None → (IsEnded P s → ⊥) → IsUpkeepChoice P s x → IsDriverEntry P s x
  upkeep_entry s (Claim w n job k) up free on c = absurd up
  upkeep_entry s (Deliver w) up free on c = absurd up
  upkeep_entry s (Pause e) up free on c = (free, on, c)
  upkeep_entry s (Resume e) up free on c = (free, on, c)
  upkeep_entry s (Finish n) up free on c = (free, on, c)
  upkeep_entry s (Stop n) up free on c = (free, on, c)
  upkeep_entry s (Fail w) up free on c = absurd up

  pub goes_on : WellFormed P → IsWorker P 1 → (es : List Entry) → IsDrivenFrom P es (opening P) → (IsEnded P (state_after P es) → ⊥) → (x : Entry) × IsDriverEntry P (state_after P es) x
  goes_on well at es d on = go ((state_after P es).tasks 1) refl
    where
      claim : (state_after P es).tasks 1 ≡ None → NoUpkeep P (state_after P es) → (n : ℕ) × (job : Job) × (k : ℕ) × IsClaimChoice P (state_after P es) 1 n job k → (x : Entry) × IsDriverEntry P (state_after P es) x
      claim free quiet (n, job, k, c) = (Claim 1 n job k, (refl, on, quiet, c))

      free_hands : (state_after P es).tasks 1 ≡ None → ((x : Entry) × IsUpkeep x × IsUpkeepChoice P (state_after P es) x) ⊎ NoUpkeep P (state_after P es) → (x : Entry) × IsDriverEntry P (state_after P es) x
      free_hands free (inl (x, up, c)) = (x, upkeep_entry (state_after P es) x up free on c)
      free_hands free (inr quiet) = claim free quiet (first_claim P (state_after P es) 1 (can_claim well at es d on free quiet))

      go : (o : Option (Task R)) → (state_after P es).tasks 1 ≡ o → (x : Entry) × IsDriverEntry P (state_after P es) x
      go (Some t) e = (Deliver 1, (refl, (at, (t, e))))
      go None e = free_hands e (upkeep_or_none P (state_after P es))

  choice_enabled : (s : State R) (x : Entry) → IsUpkeepChoice P s x → Enabled P s x
  choice_enabled s (Claim w n job k) c = absurd c
  choice_enabled s (Deliver w) c = absurd c
  choice_enabled s (Pause e) c = c.1.0
  choice_enabled s (Resume e) c = c.3.0
  choice_enabled s (Finish n) c = c.2.0
  choice_enabled s (Stop n) c = c.0
  choice_enabled s (Fail w) c = absurd c

  pub some_entry : WellFormed P → IsWorker P 1 → (es : List Entry) → IsHistory P es → (IsEnded P (state_after P es) → ⊥) → (HasFailed P (state_after P es) → ⊥) → NothingInFlight P (state_after P es) → (x : Entry) × Enabled P (state_after P es) x
  some_entry well at es legal on runs idle = go (state_after P es).failed refl (upkeep_or_none P (state_after P es))
    where
      claim : CanWork P (state_after P es) 1 → (x : Entry) × Enabled P (state_after P es) x
      claim (n, job, k, can) = (Claim 1 n job k, can)

      go : (b : Bool) → (state_after P es).failed ≡ b → ((x : Entry) × IsUpkeep x × IsUpkeepChoice P (state_after P es) x) ⊎ NoUpkeep P (state_after P es) → (x : Entry) × Enabled P (state_after P es) x
      go true e u = absurd (runs (record { failed = e; idle = idle }))
      go false e (inl (x, up, c)) = (x, choice_enabled (state_after P es) x c)
      go false e (inr quiet) = claim (never_stuck_history P well es legal e (λ done. on (record { done = done; sound = e; idle = idle })) idle quiet 1 at)
