use Rattle.std.proofs.Common.{◌≡◌, ◌++◌, drop}
use Rattle.std.specs.Prelude.{string_bytes, codes}
use Rattle.table_print.specs.Aligned.{names_from}
use Rattle.table_print.proofs.aligned.push_groups.Given as goal

abbrev pub invariant-loop-place : goal.invariant-loop-place
invariant-loop-place l =
    string_bytes l.out ++ names_from l.place (drop l.place l.groups) ≡ (string_bytes l.fn.out ++ codes "# Groups: ") ++ names_from 0 l.groups
