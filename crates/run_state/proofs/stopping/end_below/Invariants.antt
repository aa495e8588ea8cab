use Rattle.run_state.proofs.Below.{Walked}
use Rattle.run_state.proofs.stopping.end_below.Given as goal

abbrev pub invariant-loop-done : goal.invariant-loop-done
invariant-loop-done l = Walked l.infos l.node l.done l.below l.fn.stages.items l.stages.items l.fn.queues.items l.queues.items
