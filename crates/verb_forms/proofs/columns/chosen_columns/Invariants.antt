use Rattle.std.proofs.Common.{◌≡◌, take}
use Rattle.verb_forms.specs.Columns.{chosen_columns}
use Rattle.verb_forms.proofs.columns.chosen_columns.Given as goal

abbrev pub invariant-loop-at : goal.invariant-loop-at
invariant-loop-at l = l.made ≡ chosen_columns l.schema (take l.at-index l.chosen)
