use Rattle.std.proofs.Common.{◌≡◌, drop}
use Rattle.verb_meaning.specs.Rows.{passes}
use Rattle.verb_meaning.proofs.rows.passes.Given as goal

abbrev pub invariant-loop-part : goal.invariant-loop-part
invariant-loop-part l = passes l.conditions l.row ≡ passes (drop l.part-index l.conditions) l.row
