-- What is counted for the fetches of a plan.
use Rattle.std.specs.Prelude.{◌≡◌, ℕ, ◌+◌, ◌-◌, ◌<◌, ◌≤◌, ◌^◌, List, length, Option, Some, None, IsSome, vec_capacity, slice_index_or}
use Rattle.scalar_value.specs.declared.value.Value.{Value}
use Rattle.plan_machine.specs.Plan.{Plan as MachinePlan}
use Rattle.plan_machine.specs.State.{State}
use Rattle.task_work.specs.declared.work.Fruit.{Fruit}
use Rattle.task_work.specs.declared.work.Fruit.TheVariants as fruit
use Rattle.plan_store.specs.Told.{Told, plan_of, state_of}
use Rattle.run_state.specs.Stored.{Held, flying_in}
use Rattle.fetch_counts.specs.declared.front.Front.{Front}
use Rattle.fetch_counts.specs.Counts.{FrontIs}

-- of a batch that was folded its index and its number of rows
abbrev pub counted_of : {O S L : Type 0} → Fruit O S L → Option (ℕ × ℕ)
counted_of (fruit.Emit table out) = None
counted_of (fruit.Fold part index rows) = Some (index, rows)
counted_of (fruit.Seal row count) = None
counted_of (fruit.Stream part out rest) = None
counted_of (fruit.Close row count) = None
counted_of (fruit.Tail part out) = None

-- What is stored for node n. Of a fetch it is what it has folded, with room to count all that is in flight and what may be
-- claimed in the room of the history.
pub record FrontStands (P : MachinePlan (List Value)) (s : State (List Value)) (room n : ℕ) (f : Front) : Type 0 where
  pub wanted : f.wanted ≡ (P.node n).wanted
  pub few : (m : ℕ) → (P.node n).wanted ≡ Some m → m < 2 ^ 64
  pub counts : (m : ℕ) → (P.node n).wanted ≡ Some m → FrontIs (s.folded n) f
  pub fits : (m : ℕ) → (P.node n).wanted ≡ Some m → length f.behind.items + flying_in P s + room ≤ vec_capacity f.behind

pub record FrontsStand (t : Told) (fronts : List Front) : Type 0 where
  pub size : length fronts ≡ (plan_of t.given).sink
  pub each : Held (λ n f. FrontStands (plan_of t.given) (state_of t) t.room n f) fronts

-- There is a node of this number, and where it is a fetch it has room to count a batch more.
pub record IsCountable (fronts : List Front) (n : ℕ) : Type 0 where
  pub low : 1 ≤ n
  pub within : n - 1 < length fronts
  pub room : (d : Front) → IsSome (slice_index_or fronts (n - 1) d).wanted → length (slice_index_or fronts (n - 1) d).behind.items < vec_capacity (slice_index_or fronts (n - 1) d).behind
