use Rattle.std.proofs.Common.{◌≡◌, take}
use Rattle.verb_forms.specs.Columns.{names_at}
use Rattle.verb_forms.proofs.columns.names_at.Given as goal

abbrev pub invariant-loop-at : goal.invariant-loop-at
invariant-loop-at l = l.names ≡ names_at l.schema (take l.at-index l.at-items)
