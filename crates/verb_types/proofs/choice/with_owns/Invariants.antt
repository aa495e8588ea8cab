use Rattle.std.proofs.Common.{◌≡◌, drop}
use Rattle.std.specs.Prelude.{fold}
use Rattle.verb_types.specs.Steps.{with_own}
use Rattle.verb_types.proofs.choice.with_owns.Given as goal

abbrev pub invariant-loop-at : goal.invariant-loop-at
invariant-loop-at l = fold (with_own l.schema) l.initial.had l.columns ≡ fold (with_own l.schema) l.had (drop l.at-index l.columns)
