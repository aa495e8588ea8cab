-- When a job can be done at a node in its phase, by what is stored of the node.
use Rattle.std.specs.Prelude.{◌≡◌, ℕ, ◌<◌, Bool, true, false}
use Rattle.plan_machine.specs.declared.entry.Job.{Job}
use Rattle.plan_machine.specs.declared.entry.Job.TheVariants.{Emit, Fold, Seal, Stream, Close, Tail}

-- `waiting` batches wait on the input that the phase reads, `ended` says whether it has ended, and `paused` whether the
-- node's own edge is paused
abbrev pub MayDo : Job → (next count busy : ℕ) → (tails paused : Bool) → (waiting : ℕ) → (ended : Bool) → (number : ℕ) → Type 0
MayDo Emit next count busy tails paused waiting ended number = (next ≡ number) × (number < count) × (paused ≡ false)
MayDo Fold next count busy tails paused waiting ended number = number < waiting
MayDo Seal next count busy tails paused waiting ended number = (busy ≡ 0) × (ended ≡ true) × (number ≡ 0)
MayDo Stream next count busy tails paused waiting ended number = (number < waiting) × (paused ≡ false)
MayDo Close next count busy tails paused waiting ended number = (busy ≡ 0) × (ended ≡ true) × (number ≡ 0) × (tails ≡ true)
MayDo Tail next count busy tails paused waiting ended number = (next ≡ number) × (number < count) × (paused ≡ false)
