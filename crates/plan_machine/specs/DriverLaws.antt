-- The laws of the lone driver, and of histories that grow by an entry.
use Rattle.std.specs.Prelude.{◌≡◌, ◌≢◌, ℕ, ◌≤◌, List, [], ◌∷◌, ◌++◌, length, max, false, None}
use Rattle.plan_machine.specs.declared.entry.Entry.{Entry}
use Rattle.plan_machine.specs.Plan.{Plan, IsWorker}
use Rattle.plan_machine.specs.State.{State, NothingInFlight, opening}
use Rattle.plan_machine.specs.Enabled.{Enabled}
use Rattle.plan_machine.specs.After.{after}
use Rattle.plan_machine.specs.History.{replay, IsLegal, IsHistory, state_after, IsEnded, HasFailed, peak}
use Rattle.plan_machine.specs.Driver.{NoUpkeep, CanWork, IsDriverEntry, IsDrivenFrom, IsDriven}
use Rattle.plan_machine.specs.WellFormed.{Lawful, WellFormed}
use Rattle.plan_machine.specs.Budget.{IsBudget, most}

-- What a history becomes by one more entry: its state goes on from the state before, its peaks grow by
-- what then waits, and it stays legal, or driven, where the entry was enabled, or the driver's.
pub record GrowsBy {R : Type 0} (P : Plan R) (es : List Entry) (x : Entry) (s : State R) : Type 0 where
  pub state : replay P (es ++ x ∷ []) s ≡ after P (replay P es s) x
  pub peaks : (e : ℕ) → peak P e (es ++ x ∷ []) s ≡ max (peak P e es s) (length ((after P (replay P es s) x).waiting e))
  pub legal : IsLegal P es s → Enabled P (replay P es s) x → IsLegal P (es ++ x ∷ []) s
  pub driven : IsDrivenFrom P es s → IsDriverEntry P (replay P es s) x → IsDrivenFrom P (es ++ x ∷ []) s

abbrev pub HistoryGrows : Type 0 → Type 0
HistoryGrows R = (P : Plan R) (es : List Entry) (x : Entry) (s : State R) → GrowsBy P es x s

-- Some entry is enabled in each state of a history that has neither ended nor failed, with nothing in
-- flight.
abbrev pub SomeEntryEnabled : Type 0 → Type 0
SomeEntryEnabled R =
    (P : Plan R) → WellFormed P → IsWorker P 1 → (es : List Entry) → IsHistory P es
    → (IsEnded P (state_after P es) → ⊥) → (HasFailed P (state_after P es) → ⊥) → NothingInFlight P (state_after P es)
    → (x : Entry) × Enabled P (state_after P es) x

-- The driver's histories are legal.
abbrev pub DriverIsLegal : Type 0 → Type 0
DriverIsLegal R = (P : Plan R) (es : List Entry) → IsDrivenFrom P es (opening P) → IsHistory P es

-- The driver works alone: no Fail came, and only worker 1 has a task.
abbrev pub DriverIsAlone : Type 0 → Type 0
DriverIsAlone R =
    (P : Plan R) (es : List Entry) → IsDrivenFrom P es (opening P)
    → ((state_after P es).failed ≡ false) × ((w : ℕ) → w ≢ 1 → (state_after P es).tasks w ≡ None)

-- With nothing in hand and no upkeep due, the driver can claim until the run has ended.
abbrev pub DriverCanClaim : Type 0 → Type 0
DriverCanClaim R =
    (P : Plan R) → WellFormed P → IsWorker P 1 → (es : List Entry) → IsDrivenFrom P es (opening P)
    → (IsEnded P (state_after P es) → ⊥) → (state_after P es).tasks 1 ≡ None → NoUpkeep P (state_after P es)
    → CanWork P (state_after P es) 1

-- The driver goes on until the run has ended: till then there is an entry that it adds.
abbrev pub DriverGoesOn : Type 0 → Type 0
DriverGoesOn R =
    (P : Plan R) → WellFormed P → IsWorker P 1 → (es : List Entry) → IsDrivenFrom P es (opening P)
    → (IsEnded P (state_after P es) → ⊥) → (x : Entry) × IsDriverEntry P (state_after P es) x

-- The plan alone determines the history that the driver gives.
abbrev pub DriverIsDetermined : Type 0 → Type 0
DriverIsDetermined R = (P : Plan R) (es es' : List Entry) → IsDriven P es → IsDriven P es' → es ≡ es'

-- The driver comes to an end: it gives a history that ends, with at most `most` entries.
abbrev pub DriverEnds : Type 0 → Type 0
DriverEnds R =
    (P : Plan R) → Lawful P → WellFormed P → IsWorker P 1 → (rows batches : ℕ → ℕ) → IsBudget P rows batches
    → (es : List Entry) × IsDriven P es × (length es ≤ most P batches)
