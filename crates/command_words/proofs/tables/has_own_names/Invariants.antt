use Rattle.std.proofs.Common.{◌≡◌, drop}
use Rattle.command_words.specs.Tables.{has_own_names}
use Rattle.command_words.proofs.tables.has_own_names.Given as goal

abbrev pub invariant-loop-i : goal.invariant-loop-i
invariant-loop-i l = has_own_names l.tables ≡ has_own_names (drop l.i l.tables)
