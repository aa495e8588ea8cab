-- The phases that a node goes through, and how many batches hold a list of rows.
use Rattle.std.specs.Prelude.{ℕ, ◌+◌, ◌-◌, ◌/◌, Bool, if◌then◌else◌}
use Rattle.plan_machine.specs.declared.entry.Phase.{Phase}
use Rattle.plan_machine.specs.declared.entry.Phase.TheVariants.{Emitting, Folding, Streaming, Tailing, Sealed}
use Rattle.plan_machine.specs.declared.shape.OpShape.{OpShape}

-- A source starts Emitting. A node that folds starts Folding, another starts Streaming.
abbrev pub first_phase_of : Bool → OpShape → Phase
first_phase_of is_source shape = if is_source then Emitting else (if shape.folds then Folding else Streaming)

-- After its Seal a node is Streaming if it streams, else Tailing if it tails, else Sealed.
abbrev pub phase_after_seal_of : Bool → Bool → Phase
phase_after_seal_of streams tails = if streams then Streaming else (if tails then Tailing else Sealed)

-- How many parts of `batch` rows hold so many rows, the last part being perhaps shorter.
abbrev pub part_count_of : ℕ → ℕ → ℕ
part_count_of rows batch = (rows + (batch - 1)) / batch
