use Rattle.std.proofs.Common.{◌≡◌, map, take}
use Rattle.verb_types.specs.Steps.{own_name}
use Rattle.verb_types.proofs.columns.own_names.Given as goal

abbrev pub invariant-loop-at : goal.invariant-loop-at
invariant-loop-at l = l.columns ≡ map (own_name l.schema) (take l.at-index l.places)
