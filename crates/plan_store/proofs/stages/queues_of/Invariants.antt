use Rattle.std.proofs.Common.{◌≡◌, ◌<◌, ◌≤◌, ℕ, length, slice_index_or, []}
use Rattle.std.specs.VecDeque.{deque_capacity}
use Rattle.backpressure.specs.Edges.{quiet}
use Rattle.plan_store.specs.declared.queue.Queue.{Queue}
use Rattle.plan_store.proofs.stages.queues_of.Given as goal

abbrev pub invariant-loop-place : goal.invariant-loop-place
invariant-loop-place l =
    (length l.made.items ≡ l._place)
    × ((k : ℕ) (d : Queue) → k < l._place →
    ((slice_index_or l.made.items k d).waiting.items ≡ [])
    × (l.places ≤ deque_capacity (slice_index_or l.made.items k d).waiting)
    × ((slice_index_or l.made.items k d).edge ≡ quiet))
