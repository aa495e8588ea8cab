use Rattle.std.proofs.Common.{◌≡◌}
use Rattle.std.specs.Slice.Iter.{iter_rest}
use Rattle.std.specs.Iterator.Adapters.{rev_source}
use Rattle.script_evaluation.specs.Working.{found_stage}
use Rattle.script_evaluation.proofs.evaluation.found.Given as goal

abbrev pub invariant-loop-own : goal.invariant-loop-own
invariant-loop-own l = found_stage l.name l.scope ≡ found_stage l.name (iter_rest (rev_source l.own-iterator))
