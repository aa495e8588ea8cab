use Rattle.std.proofs.Common.{◌≡◌, drop}
use Rattle.outside_io.specs.Memory.{are_distinct}
use Rattle.session_cases.proofs.are_distinct.Given as goal

abbrev pub invariant-loop-place : goal.invariant-loop-place
invariant-loop-place l = are_distinct l.files ≡ are_distinct (drop l.place l.files)
