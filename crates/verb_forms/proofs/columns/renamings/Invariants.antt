use Rattle.std.proofs.Common.{◌≡◌, take}
use Rattle.verb_forms.specs.Columns.{renamings}
use Rattle.verb_forms.proofs.columns.renamings.Given as goal

abbrev pub invariant-loop-at : goal.invariant-loop-at
invariant-loop-at l = l.made ≡ renamings l.schema (take l.at-index l.chosen)
