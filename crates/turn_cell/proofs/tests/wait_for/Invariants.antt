-- The seat is of the cell, and it is the seat that came in.
use Rattle.std.proofs.Common.{◌≡◌}
use Rattle.turn_cell.proofs.tests.wait_for.Given as goal

abbrev pub invariant-loop : goal.invariant-loop
invariant-loop g l =
    (l.worker.seat.cell ≡ l.fn.worker.seat.cell) × (l.worker.seat.knows.is_first ≡ l.fn.worker.seat.knows.is_first) × (l.worker.seat.knows.unjoined ≡ l.fn.worker.seat.knows.unjoined)
