use Rattle.std.proofs.Common.{◌≡◌, ◌<◌, ℕ, length, slice_index_or, None}
use Rattle.std.specs.Arc.{arc_value}
use Rattle.plan_store.specs.Shares.{IsPartShare}
use Rattle.plan_store.proofs.shares.part_row.Given as goal

abbrev pub invariant-loop-worker : goal.invariant-loop-worker
invariant-loop-worker g l =
    (length l.row.items ≡ l._worker)
    × ((k : ℕ) → k < l._worker → IsPartShare g.O.Operator.meaning g.O.Operator.local_is g.O.Operator.shared_is (arc_value l.op) (slice_index_or l.row.items k None))
