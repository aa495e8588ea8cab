-- When a node has nothing left to do.
use Rattle.std.specs.Prelude.{ℕ, Bool, false, true, not, ◌&&◌, nat_eq}
use Rattle.plan_machine.specs.declared.entry.Phase.{Phase}
use Rattle.plan_machine.specs.declared.entry.Phase.TheVariants.{Emitting, Folding, Streaming, Tailing, Sealed, Done}

-- what is left in a phase: batches to give, or an input that has not ended
abbrev pub left_by : Phase → (next count : ℕ) → (tails ended : Bool) → Bool
left_by Emitting next count tails ended = nat_eq next count
left_by Folding next count tails ended = false
left_by Streaming next count tails ended = not tails && ended
left_by Tailing next count tails ended = nat_eq next count
left_by Sealed next count tails ended = true
left_by Done next count tails ended = false

-- nothing is left, and no task of the node is in flight
abbrev pub finish_by : Phase → (next count busy : ℕ) → (tails ended : Bool) → Bool
finish_by p next count busy tails ended = nat_eq busy 0 && left_by p next count tails ended
