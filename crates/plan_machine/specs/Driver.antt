-- What the engine prefers where several entries are enabled, and the history of a run on one worker.
use Rattle.std.specs.Prelude.{◌≡◌, ℕ, ◌<◌, ◌≤◌, List, [], ◌∷◌, ◌⊎◌, None}
use Rattle.plan_machine.specs.declared.entry.Job.{Job}
use Rattle.plan_machine.specs.declared.entry.Job.TheVariants.{Emit, Fold, Seal, Stream, Close, Tail}
use Rattle.plan_machine.specs.declared.entry.Entry.{Entry}
use Rattle.plan_machine.specs.declared.entry.Entry.TheVariants.{Claim, Deliver, Pause, Resume, Finish, Stop, Fail}
use Rattle.plan_machine.specs.Upkeep.{IsUpkeep}
use Rattle.plan_machine.specs.Plan.{Plan}
use Rattle.plan_machine.specs.State.{State, opening}
use Rattle.plan_machine.specs.Enabled.{Enabled, HasTask}
use Rattle.plan_machine.specs.After.{after}
use Rattle.plan_machine.specs.History.{IsEnded, state_after}

-- the place of a job in the order of preference
abbrev pub place_of : Job → ℕ
place_of Emit = 0
place_of Fold = 1
place_of Seal = 2
place_of Stream = 3
place_of Close = 4
place_of Tail = 5

-- Of two claims the first is preferred: the lower node, then the earlier job, then the lower batch.
abbrev pub IsPreferred : (n : ℕ) (job : Job) (k : ℕ) (n' : ℕ) (job' : Job) (k' : ℕ) → Type 0
IsPreferred n job k n' job' k' = (n < n') ⊎ ((n ≡ n') × ((place_of job < place_of job') ⊎ ((job ≡ job') × (k ≤ k'))))

module _ {R : Type 0} (P : Plan R) where
  -- no upkeep is enabled
  abbrev pub NoUpkeep : State R → Type 0
  NoUpkeep s = (e : Entry) → IsUpkeep e → Enabled P s e → ⊥

  -- none of the entries `entry 0`, `entry 1` and so on is enabled
  abbrev pub NoneOf : State R → (ℕ → Entry) → Type 0
  NoneOf s entry = (k : ℕ) → Enabled P s (entry k) → ⊥

  -- `entry k` is enabled, and none of a lower number is
  abbrev pub IsLowest : State R → (ℕ → Entry) → ℕ → Type 0
  IsLowest s entry k = Enabled P s (entry k) × ((j : ℕ) → j < k → Enabled P s (entry j) → ⊥)

  -- The choice among upkeep: the first enabled of Stop, Pause, Finish and Resume, each at its lowest
  -- number.
  abbrev pub IsUpkeepChoice : State R → Entry → Type 0
  IsUpkeepChoice s (Stop n) = IsLowest s Stop n
  IsUpkeepChoice s (Pause e) = NoneOf s Stop × IsLowest s Pause e
  IsUpkeepChoice s (Finish n) = NoneOf s Stop × NoneOf s Pause × IsLowest s Finish n
  IsUpkeepChoice s (Resume e) = NoneOf s Stop × NoneOf s Pause × NoneOf s Finish × IsLowest s Resume e
  IsUpkeepChoice s (Claim w n job k) = ⊥
  IsUpkeepChoice s (Deliver w) = ⊥
  IsUpkeepChoice s (Fail w) = ⊥

  -- The choice among a worker's claims: the lowest node, there the first job, there the lowest batch.
  abbrev pub IsClaimChoice : State R → ℕ → ℕ → Job → ℕ → Type 0
  IsClaimChoice s w n job k =
      Enabled P s (Claim w n job k)
      × ((n' : ℕ) (job' : Job) (k' : ℕ) → Enabled P s (Claim w n' job' k') → IsPreferred n job k n' job' k')

  -- no claim of the worker is enabled
  abbrev pub NoClaim : State R → ℕ → Type 0
  NoClaim s w = (n : ℕ) (job : Job) (k : ℕ) → Enabled P s (Claim w n job k) → ⊥

  -- some claim of the worker is enabled
  abbrev pub CanWork : State R → ℕ → Type 0
  CanWork s w = (n : ℕ) × (job : Job) × (k : ℕ) × Enabled P s (Claim w n job k)

  -- What the lone driver adds, as worker 1. What it has in hand it delivers. With nothing in hand it
  -- looks whether the run has ended; else it does upkeep while there is any, and then claims.
  abbrev pub IsDriverEntry : State R → Entry → Type 0
  IsDriverEntry s (Claim w n job k) = (w ≡ 1) × (IsEnded P s → ⊥) × NoUpkeep s × IsClaimChoice s 1 n job k
  IsDriverEntry s (Deliver w) = (w ≡ 1) × HasTask P s 1
  IsDriverEntry s (Pause e) = (s.tasks 1 ≡ None) × (IsEnded P s → ⊥) × IsUpkeepChoice s (Pause e)
  IsDriverEntry s (Resume e) = (s.tasks 1 ≡ None) × (IsEnded P s → ⊥) × IsUpkeepChoice s (Resume e)
  IsDriverEntry s (Finish n) = (s.tasks 1 ≡ None) × (IsEnded P s → ⊥) × IsUpkeepChoice s (Finish n)
  IsDriverEntry s (Stop n) = (s.tasks 1 ≡ None) × (IsEnded P s → ⊥) × IsUpkeepChoice s (Stop n)
  IsDriverEntry s (Fail w) = ⊥

  -- each entry is the one that the lone driver adds
  abbrev pub IsDrivenFrom : List Entry → State R → Type 0
  IsDrivenFrom [] s = Unit {0}
  IsDrivenFrom (e ∷ es) s = IsDriverEntry s e × IsDrivenFrom es (after P s e)

  -- The history is one that the lone driver gives, and is driven to its end.
  pub record IsDriven (es : List Entry) : Type 0 where
    pub driven : IsDrivenFrom es (opening P)
    pub ended : IsEnded P (state_after P es)
