use Rattle.std.proofs.Common.{◌≡◌, take}
use Rattle.verb_types.specs.Steps.{places_of}
use Rattle.verb_types.proofs.columns.places_of.Given as goal

abbrev pub invariant-loop-name : goal.invariant-loop-name
invariant-loop-name l = l.places ≡ places_of l.schema (take l.name-index l.names)
