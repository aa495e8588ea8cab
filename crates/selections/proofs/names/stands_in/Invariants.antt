use Rattle.std.proofs.Common.{◌≡◌, drop}
use Rattle.selections.specs.Columns.{lowered, contains_text}
use Rattle.selections.proofs.names.stands_in.Given as goal

abbrev pub invariant-loop-start : goal.invariant-loop-start
invariant-loop-start l =
    contains_text (lowered l.text) (lowered l.name) ≡ contains_text (lowered l.text) (lowered (drop l.start l.name))
