-- What a worker can do first: at a node, and in the plan.
use Rattle.std.specs.Prelude.{◌≡◌, ℕ, ◌<◌, ◌≤◌, Bool, not, ◌&&◌, cond, nat_eq, nat_lt, Option, Some, None, ◌⊎◌}
use Rattle.plan_machine.specs.declared.entry.Phase.{Phase}
use Rattle.plan_machine.specs.declared.entry.Phase.TheVariants.{Emitting, Folding, Streaming, Tailing, Sealed, Done}
use Rattle.plan_machine.specs.declared.entry.Job.{Job}
use Rattle.plan_machine.specs.declared.entry.Job.TheVariants.{Emit, Fold, Seal, Stream, Close, Tail}
use Rattle.plan_machine.specs.Plan.{Plan, IsNode}
use Rattle.plan_machine.specs.State.{State}
use Rattle.plan_machine.specs.Enabled.{CanDo}
use Rattle.plan_machine.specs.Driver.{place_of}

-- The job of a phase: `waits` and `ended` say whether a batch waits on the input that the phase reads, and whether that
-- input has ended, and `paused` whether the node's own edge is paused.
abbrev pub job_by : Phase → (next count busy : ℕ) → (tails paused waits ended : Bool) → Option Job
job_by Emitting next count busy tails paused waits ended = cond (nat_lt next count && not paused) (Some Emit) None
job_by Folding next count busy tails paused waits ended = cond waits (Some Fold) (cond (ended && nat_eq busy 0) (Some Seal) None)
job_by Streaming next count busy tails paused waits ended = cond (waits && not paused) (Some Stream) (cond (ended && (tails && nat_eq busy 0)) (Some Close) None)
job_by Tailing next count busy tails paused waits ended = cond (nat_lt next count && not paused) (Some Tail) None
job_by Sealed next count busy tails paused waits ended = None
job_by Done next count busy tails paused waits ended = None

-- the input that a node reads in a phase, or else the node itself
abbrev pub input_by : Phase → (streams : Bool) → (first second node : ℕ) → ℕ
input_by Emitting streams first second node = node
input_by Folding streams first second node = cond streams second first
input_by Streaming streams first second node = first
input_by Tailing streams first second node = node
input_by Sealed streams first second node = node
input_by Done streams first second node = node

-- an Emit and a Tail give the next batch, and other jobs have the number 0
abbrev pub number_by : Job → ℕ → ℕ
number_by Emit next = next
number_by Fold next = 0
number_by Seal next = 0
number_by Stream next = 0
number_by Close next = 0
number_by Tail next = next

module _ {R : Type 0} (P : Plan R) where
  -- nothing can be done at node n
  abbrev pub NoJob : State R → ℕ → Type 0
  NoJob s n = (job : Job) (k : ℕ) → CanDo P s n job k → ⊥

  -- this can be done at node n, and neither an earlier job nor the same with a lower number
  abbrev pub IsFirstJob : State R → ℕ → Job → ℕ → Type 0
  IsFirstJob s n job k = CanDo P s n job k × ((job' : Job) (k' : ℕ) → CanDo P s n job' k' → (place_of job < place_of job') ⊎ ((job ≡ job') × (k ≤ k')))

  -- this can be done first at the lowest node at which anything can be done
  pub record IsFirstWork (s : State R) (n : ℕ) (job : Job) (k : ℕ) : Type 0 where
    pub node : IsNode P n
    pub first : IsFirstJob s n job k
    pub lowest : (m : ℕ) → IsNode P m → m < n → NoJob s m

  -- nothing can be done at any node
  abbrev pub NoWork : State R → Type 0
  NoWork s = (n : ℕ) → IsNode P n → NoJob s n
