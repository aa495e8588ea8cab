-- What deliveries ask for, and which of them are dropped.
use Rattle.std.specs.Prelude.{◌≡◌, ℕ, Bool, ◌||◌, List, Some}
use Rattle.scalar_value.specs.declared.value.Value.{Value}
use Rattle.plan_machine.specs.State.{Task as MachineTask}
use Rattle.plan_machine.specs.After.{is_done}
use Rattle.plan_store.specs.Told.{Told, state_of}

-- the worker's task in flight stands at this node
pub record IsFlying (told : Told) (worker node : ℕ) : Type 0 where
  pub task : MachineTask (List Value)
  pub flies : (state_of told).tasks worker ≡ Some task
  pub at_node : task.node ≡ node

-- A delivery is dropped where the run failed, or where its node was stopped.
abbrev pub is_dropped : Told → ℕ → Bool
is_dropped told node = (state_of told).failed || is_done ((state_of told).phase node)
