-- The driver goes on, but no longer than a history can.
use Rattle.std.proofs.Common.{◌≡◌, ℕ, zero, suc, ◌+◌, ◌<◌, ◌≤◌, List, [], ◌∷◌, ◌++◌, length, length-append, inl, inr, refl, arith, Option, Some, None}
use Rattle.plan_machine.specs.declared.entry.Phase.TheVariants.{Done}
use Rattle.plan_machine.specs.declared.entry.Entry.{Entry}
use Rattle.plan_machine.specs.Plan.{Plan, IsWorker}
use Rattle.plan_machine.specs.State.{State, opening}
use Rattle.plan_machine.specs.History.{IsHistory, state_after, IsEnded}
use Rattle.plan_machine.specs.Driver.{IsDriverEntry, IsDrivenFrom, IsDriven}
use Rattle.plan_machine.specs.WellFormed.{WellFormed}
use Rattle.plan_machine.proofs.DriverSearch.{Known, both, known_by, known_phase}
use Rattle.plan_machine.proofs.DriverHistory.{Alone, driven_legal, grows}
use Rattle.plan_machine.proofs.DriverGoes.{alone, nothing_in_flight, goes_on}

known_free : {A : Type 0} (o : Option A) → Known (o ≡ None)
known_free None = inl refl
known_free (Some x) = inr (λ e. cc)

module _ {R : Type 0} (P : Plan R) (well : WellFormed P) (at : IsWorker P 1) where
  known_end : (s : State R) → Alone P s → Known (IsEnded P s)
  known_end s a =
      known_by (λ h. record { done = h.0; sound = a.sound; idle = nothing_in_flight P s a h.1 }) (λ e. (e.done, e.idle 1 at))
      (both (known_phase (s.phase P.sink) Done) (known_free (s.tasks 1)))

  ends_within : (bound : ℕ) → ((es : List Entry) → IsHistory P es → length es ≤ bound) → (k : ℕ) (es : List Entry) → IsDrivenFrom P es (opening P) → bound < length es + k → (run : List Entry) × IsDriven P run × (length run ≤ bound)
  ends_within bound most zero es d low = let a = most es (driven_legal P es (opening P) d) in absurd (omega arith)
  ends_within bound most (suc k) es d low = go (λ x next. ends_within bound most k (es ++ x ∷ []) ((grows P es x (opening P)).driven d next) (let a = length-append es (x ∷ []) in omega arith)) (known_end (state_after P es) (alone P es d))
    where
      go : ((x : Entry) → IsDriverEntry P (state_after P es) x → (run : List Entry) × IsDriven P run × (length run ≤ bound)) → Known (IsEnded P (state_after P es)) → (run : List Entry) × IsDriven P run × (length run ≤ bound)
      go more (inl e) = (es, record { driven = d; ended = e }, most es (driven_legal P es (opening P) d))
      go more (inr on) = let (x, next) = goes_on P well at es d on in more x next

  pub ends : (bound : ℕ) → ((es : List Entry) → IsHistory P es → length es ≤ bound) → (run : List Entry) × IsDriven P run × (length run ≤ bound)
  ends bound most = ends_within bound most (suc bound) [] tt (omega arith)
