-- What a Stop leaves of the nodes from which edges lead to a fetch.
use Rattle.std.specs.Prelude.{◌≡◌, ℕ, zero, suc, ◌-◌, ◌<◌, Bool, true, false, ◌&&◌, ◌||◌, nat_eq, nat_lt, cond, List, [], length, slice_index_or}
use Rattle.std.specs.VecDeque.{deque_capacity}
use Rattle.backpressure.specs.Edges.{emptied}
use Rattle.plan_store.specs.declared.queue.Queue.{Queue}
use Rattle.plan_store.specs.declared.stage.NodeInfo.{NodeInfo}
use Rattle.plan_store.specs.declared.stage.Stage.{Stage}
use Rattle.run_state.specs.Stages.{ended}

-- an edge on which nothing waits any more
pub record IsEmptied (old q : Queue) : Type 0 where
  pub items : q.waiting.items ≡ []
  pub room : deque_capacity q.waiting ≡ deque_capacity old.waiting
  pub edge : q.edge ≡ emptied old.edge

-- beyond the plan
abbrev pub no_info : NodeInfo
no_info = record { source = false; shape = record { folds = false; streams = false; tails = false }; kept = false; first = 0; second = 0; user = 0 }

-- the user of node m by what is stored of it
abbrev pub user_in : List NodeInfo → ℕ → ℕ
user_in infos m = (slice_index_or infos (m - 1) no_info).user

-- whether edges lead from node m to node n, at most k of them
abbrev pub leads_in : List NodeInfo → ℕ → ℕ → ℕ → Bool
leads_in infos zero m n = false
leads_in infos (suc k) m n = (nat_lt 0 m && nat_lt m (length infos)) && (nat_eq (user_in infos m) n || leads_in infos k (user_in infos m) n)

abbrev pub is_below : List NodeInfo → ℕ → ℕ → Bool
is_below infos m n = leads_in infos (length infos) m n

-- the nodes below n have ended, and all others stand where they stood
pub record AreEnded (infos : List NodeInfo) (n : ℕ) (old stages : List Stage) : Type 0 where
  pub size : length stages ≡ length old
  pub each : (k : ℕ) (d : Stage) → k < length old → slice_index_or stages k d ≡ cond (is_below infos (suc k) n) (ended (slice_index_or old k d)) (slice_index_or old k d)

-- nothing waits any more on the edges of the nodes below n, and all others are as they were
pub record AreEmptied (infos : List NodeInfo) (n : ℕ) (old queues : List Queue) : Type 0 where
  pub size : length queues ≡ length old
  pub emptied : (k : ℕ) (d : Queue) → k < length old → is_below infos (suc k) n ≡ true → IsEmptied (slice_index_or old k d) (slice_index_or queues k d)
  pub others : (k : ℕ) (d : Queue) → k < length old → is_below infos (suc k) n ≡ false → slice_index_or queues k d ≡ slice_index_or old k d
