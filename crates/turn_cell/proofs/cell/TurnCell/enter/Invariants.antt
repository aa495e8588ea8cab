-- Until it has the turn, the seat is as it was.
use Rattle.std.proofs.Common.{◌≡◌}
use Rattle.turn_cell.proofs.cell.TurnCell.enter.Given as goal

abbrev pub invariant-loop : goal.invariant-loop
invariant-loop g l = (l.seat-inside.inner.table_id ≡ l.initial.seat-inside.inner.table_id) × (l.seat-inside.inner.me ≡ l.initial.seat-inside.inner.me)
