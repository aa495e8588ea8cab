use Rattle.std.proofs.Common.{◌≡◌, drop, None}
use Rattle.verb_types.specs.Steps.{with_moves}
use Rattle.verb_types.proofs.moves.moves_of.Given as goal

abbrev pub invariant-loop-arg : goal.invariant-loop-arg
invariant-loop-arg l = with_moves l.schema (record { chosen = l.fn.start; anchor = None }) l.args ≡ with_moves l.schema l.had (drop l.arg-index l.args)
