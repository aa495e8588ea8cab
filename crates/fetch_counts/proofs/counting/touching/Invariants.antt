use Rattle.std.proofs.Common.{ℕ, ◌<◌, slice_index_or}
use Rattle.fetch_counts.specs.declared.front.Run.{Run}
use Rattle.fetch_counts.specs.Counts.{Touch}
use Rattle.fetch_counts.proofs.counting.touching.Given as goal

abbrev pub invariant-loop-place : goal.invariant-loop-place
invariant-loop-place l = (k : ℕ) (d : Run) → k < l.place → Touch l.run (slice_index_or l.behind k d) → ⊥
