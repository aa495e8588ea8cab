-- What a worker can claim first, which claims are enabled, and which upkeep is due.
use Rattle.std.proofs.Common.{◌≡◌, ◌≢◌, ℕ, ◌-◌, ◌<◌, Bool, true, false, ◌⊎◌, ◌↔◌, IsTrue, IfSome, IfNone, inl, inr, Option, Some, None, sym, subst, arith}
use Rattle.std.specs.Option.{is_some}
use Rattle.plan_machine.specs.declared.entry.Job.{Job}
use Rattle.plan_machine.specs.declared.entry.Entry.TheVariants.{Claim, Deliver, Pause, Resume, Finish, Stop, Fail}
use Rattle.plan_machine.specs.Plan.{Plan as MachinePlan, IsNode, IsWorker}
use Rattle.plan_machine.specs.State.{State}
use Rattle.plan_machine.specs.Enabled.{Enabled, CanDo, CanPause}
use Rattle.plan_machine.specs.Driver.{IsPreferred, IsClaimChoice, NoClaim, NoUpkeep, NoneOf, IsLowest}
use Rattle.plan_machine.proofs.Weigh.{same_or}
use Rattle.plan_store.specs.declared.stage.Flight.{Flight}
use Rattle.run_state.specs.Choosing.{IsFirstWork, NoWork}

module _ {R : Type 0} (P : MachinePlan R) (s : State R) where
  -- the first at the lowest node is what a worker prefers
  preferred : (n : ℕ) (job : Job) (k : ℕ) → IsFirstWork P s n job k → (n' : ℕ) (job' : Job) (k' : ℕ) → IsNode P n' → CanDo P s n' job' k' → (n ≡ n') ⊎ (n ≢ n') → IsPreferred n job k n' job' k'
  preferred n job k f n' job' k' node can (inl e) = inr (e, f.first.1 job' k' (subst (λ m. CanDo P s m job' k') (sym e) can))
  preferred n job k f n' job' k' node can (inr ne) = inl (low (same_or (n' - n) 0))
    where
      low : (n' - n ≡ 0) ⊎ (n' - n ≢ 0) → n < n'
      low (inl z) = absurd (f.lowest n' node (omega arith) job' k' can)
      low (inr nz) = omega arith

  pub choice_is : (w : ℕ) → IsWorker P w → s.failed ≡ false → s.tasks w ≡ None → NoneOf P s Stop → ((e : ℕ) → CanPause P s e → ⊥)
      → (r : Option Flight)
      → IfSome r (λ f. IsFirstWork P s f.node f.job f.number)
      → IfSome r (λ f. IsClaimChoice P s w f.node f.job f.number)
  choice_is w worker sound free goes calm None h = h
  choice_is w worker sound free goes calm (Some f) h = (
    (record { node = h.node; worker = worker; free = free; sound = sound; no_stop = λ m can. goes m (sound, can); no_pause = calm }, h.first.0),
    (λ n job k can. preferred f.node f.job f.number h n job k can.0.node can.1 (same_or f.node n)),
  )

  pub claim_is : (w n : ℕ) (job : Job) (k : ℕ) (r : Bool)
      → IsWorker P w → IsNode P n → s.failed ≡ false → s.tasks w ≡ None → NoneOf P s Stop → ((e : ℕ) → CanPause P s e → ⊥)
      → (IsTrue r ↔ CanDo P s n job k)
      → IsTrue r ↔ Enabled P s (Claim w n job k)
  claim_is w n job k r worker node sound free goes calm does = (
    λ t. (record { node = node; worker = worker; free = free; sound = sound; no_stop = λ m can. goes m (sound, can); no_pause = calm }, does.0 t),
    λ c. does.1 c.1,
  )

  -- a fetch that stops what it reads comes before every claim
  pub stop_first : (r : Option ℕ) → is_some r ≡ true → IfSome r (λ n. IsLowest P s Stop n) → (w : ℕ) → NoClaim P s w
  stop_first None e h w n job k can = absurd (cc)
  stop_first (Some m) e h w n job k can = can.0.no_stop m h.0.1

  pub none_stops : (r : Option ℕ) → is_some r ≡ false → IfNone r (NoneOf P s Stop) → NoneOf P s Stop
  none_stops None e h = h
  none_stops (Some m) e h = absurd (cc)

  pub no_work : (w : ℕ) (r : Option Flight) → IfNone r (NoWork P s) → IfNone r (NoClaim P s w)
  no_work w None h = λ n job k can. h n can.0.node job k can.1
  no_work w (Some f) h = h

  pub none_enabled : (w n : ℕ) (job : Job) (k : ℕ) → NoClaim P s w → IsTrue false ↔ Enabled P s (Claim w n job k)
  none_enabled w n job k never = (λ t. absurd (cc), λ can. absurd (never n job k can))

  pub nothing_due : NoneOf P s Stop → NoneOf P s Pause → NoneOf P s Finish → NoneOf P s Resume → NoUpkeep P s
  nothing_due t p f r (Claim w n job k) up can = absurd up
  nothing_due t p f r (Deliver w) up can = absurd up
  nothing_due t p f r (Pause e) up can = p e can
  nothing_due t p f r (Resume e) up can = r e can
  nothing_due t p f r (Finish n) up can = f n can
  nothing_due t p f r (Stop n) up can = t n can
  nothing_due t p f r (Fail w) up can = absurd up
