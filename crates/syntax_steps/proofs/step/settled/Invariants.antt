use Rattle.std.proofs.Common.{◌≡◌, length}
use Rattle.syntax_steps.specs.Machine.{settle}
use Rattle.syntax_steps.proofs.step.settled.Given as goal

abbrev pub invariant-loop-frame : goal.invariant-loop-frame
invariant-loop-frame l = settle l.rule l.start l.term l.frames ≡ settle l.fn.rule l.fn.held.start l.fn.held.term l.fn.held.frames

abbrev pub decreases-loop-frame : goal.decreases-loop-frame
decreases-loop-frame l = length l.frames
