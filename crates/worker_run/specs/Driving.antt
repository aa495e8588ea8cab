-- A run on one worker, turn by turn.
use Rattle.std.specs.Prelude.{◌≡◌, ℕ, ◌<◌, length, None}
use Rattle.plan_machine.specs.declared.entry.Entry.TheVariants.{Claim, Deliver}
use Rattle.plan_machine.specs.declared.entry.Job.{Job}
use Rattle.plan_machine.specs.State.{opening}
use Rattle.plan_machine.specs.Driver.{IsDrivenFrom, IsClaimChoice}
use Rattle.plan_store.specs.Told.{Told, plan_of, state_of, with_entry}

-- The lone driver made the history, and has nothing in hand.
pub record IsDriving (t : Told) : Type 0 where
  pub driven : IsDrivenFrom (plan_of t.given) t.history (opening (plan_of t.given))
  pub free : (state_of t).tasks 1 ≡ None

-- The driver went on: it made a longer history of the same run, and has nothing in hand.
pub record WentOn (before now : Told) : Type 0 where
  pub given : now.given ≡ before.given
  pub driving : IsDriving now
  pub longer : length before.history < length now.history

-- Worker 1 claimed what it prefers, and delivered what came of it.
pub record Worked (before now : Told) : Type 0 where
  pub node : ℕ
  pub job : Job
  pub number : ℕ
  pub chosen : IsClaimChoice (plan_of before.given) (state_of before) 1 node job number
  pub told : now ≡ with_entry (with_entry before (Claim 1 node job number) 2) (Deliver 1) 0
