use Rattle.std.proofs.Common.{◌≡◌, drop}
use Rattle.row_table.specs.Tables.{among_texts}
use Rattle.verb_forms.proofs.suiting.is_among.Given as goal

abbrev pub invariant-loop-other : goal.invariant-loop-other
invariant-loop-other l = among_texts l.name l.names ≡ among_texts l.name (drop l.other-index l.names)
