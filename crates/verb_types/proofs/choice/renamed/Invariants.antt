use Rattle.std.proofs.Common.{◌≡◌, map}
use Rattle.verb_types.specs.Steps.{taking}
use Rattle.verb_types.proofs.choice.renamed.Given as goal

abbrev pub invariant-loop-column : goal.invariant-loop-column
invariant-loop-column l = l.made ≡ map (taking l.at l.new) l.yielded
