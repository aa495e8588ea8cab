use Rattle.std.proofs.Common.{◌≡◌, drop, []}
use Rattle.verb_types.specs.Working.{with_all_unnamed}
use Rattle.verb_types.proofs.groups.all_unnamed.Given as goal

abbrev pub invariant-loop-arg : goal.invariant-loop-arg
invariant-loop-arg l = with_all_unnamed l.schema [] l.args ≡ with_all_unnamed l.schema l.had (drop l.arg-index l.args)
