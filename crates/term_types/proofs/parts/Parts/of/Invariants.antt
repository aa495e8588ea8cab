use Rattle.std.proofs.Common.{◌≡◌}
use Rattle.term_types.specs.Parts.{parts_list}
use Rattle.term_types.proofs.parts.Parts.of.Given as goal

abbrev pub invariant-loop-part : goal.invariant-loop-part
invariant-loop-part l = parts_list l.made ≡ l.yielded
