use Rattle.std.proofs.Common.{◌≡◌}
use Rattle.term_types.specs.Collecting.{case_lists}
use Rattle.term_types.proofs.cases.collected.Given as goal

abbrev pub invariant-loop-case : goal.invariant-loop-case
invariant-loop-case l = l.made ≡ case_lists l.wanted l.yielded
