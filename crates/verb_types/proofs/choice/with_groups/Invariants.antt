use Rattle.std.proofs.Common.{◌≡◌, ◌++◌, map, not}
use Rattle.std.specs.Prelude.{filter}
use Rattle.verb_types.specs.Steps.{own_name, has_column, places_of}
use Rattle.verb_types.proofs.choice.with_groups.Given as goal

abbrev pub invariant-loop-column : goal.invariant-loop-column
invariant-loop-column l = l.columns ≡ map (own_name l.x.schema) (filter (λ at. not (has_column l.fn.chosen at)) (places_of l.x.schema l.x.groups)) ++ l.yielded
