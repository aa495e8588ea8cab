use Rattle.std.proofs.Common.{◌≡◌, ◌++◌, ◌&&◌, map, drop}
use Rattle.std.specs.List.{list_all}
use Rattle.selections.specs.Selectors.{argument, is_plain, values}
use Rattle.selections.proofs.terms.+selecting.Given as goal

abbrev pub invariant-arguments_of-loop-arg : goal.invariant-arguments_of-loop-arg
invariant-arguments_of-loop-arg l =
    (list_all is_plain (map (argument l.schema) l.args) ≡ (l.made.plain && list_all is_plain (map (argument l.schema) (drop l.arg-index l.args))))
    × (values (map (argument l.schema) l.args) ≡ l.made.values ++ values (map (argument l.schema) (drop l.arg-index l.args)))
