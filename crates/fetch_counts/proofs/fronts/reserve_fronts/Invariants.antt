use Rattle.fetch_counts.specs.Counts.{AreSameCounts}
use Rattle.fetch_counts.proofs.Roomy.{RoomBelow}
use Rattle.fetch_counts.proofs.fronts.reserve_fronts.Given as goal

abbrev pub invariant-loop-place : goal.invariant-loop-place
invariant-loop-place l = AreSameCounts l.fn.fronts.items l.fronts.items × RoomBelow l.place l.more l.fronts.items
