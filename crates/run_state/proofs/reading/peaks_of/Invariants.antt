use Rattle.std.proofs.Common.{◌≡◌, map, take}
use Rattle.run_state.specs.AtEnd.{peak_of}
use Rattle.run_state.proofs.reading.peaks_of.Given as goal

abbrev pub invariant-loop-queue : goal.invariant-loop-queue
invariant-loop-queue l = l.peaks ≡ map peak_of (take l.queue-index l.queues)
