use Rattle.std.proofs.Common.{◌≡◌, ◌++◌, drop}
use Rattle.selections.specs.Columns.{lowered, passes, places_that, places_from}
use Rattle.selections.proofs.names.places_by.Given as goal

abbrev pub invariant-loop-at : goal.invariant-loop-at
invariant-loop-at l =
    places_that (λ name. passes l.test (lowered l.text) (lowered name)) l.schema
    ≡ l.places ++ places_from (λ name. passes l.test (lowered l.text) (lowered name)) l.at (drop l.at l.schema)
