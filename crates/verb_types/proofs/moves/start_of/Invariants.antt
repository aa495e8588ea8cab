use Rattle.std.proofs.Common.{◌≡◌, drop}
use Rattle.selections.specs.Selectors.{start}
use Rattle.verb_types.specs.Steps.{selectors_of}
use Rattle.verb_types.proofs.moves.start_of.Given as goal

abbrev pub invariant-loop-arg : goal.invariant-loop-arg
invariant-loop-arg l = start l.schema (selectors_of l.schema l.args) ≡ start l.schema (selectors_of l.schema (drop l.arg-index l.args))
