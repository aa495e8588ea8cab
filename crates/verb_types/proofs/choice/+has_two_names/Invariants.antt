use Rattle.std.proofs.Common.{length}
use Rattle.verb_types.proofs.choice.+has_two_names.Given as goal

abbrev pub decreases-has_two_names : goal.decreases-has_two_names
decreases-has_two_names l = length l.given.now
