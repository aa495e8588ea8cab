use Rattle.std.proofs.Common.{◌≡◌, ◌++◌}
use Rattle.std.specs.Prelude.{string_bytes}
use Rattle.table_print.specs.Aligned.{spaces}
use Rattle.table_print.proofs.aligned.push_spaces.Given as goal

abbrev pub invariant-loop-done : goal.invariant-loop-done
invariant-loop-done l = string_bytes l.out ≡ string_bytes l.fn.out ++ spaces l._done
