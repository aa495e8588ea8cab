use Rattle.std.proofs.Common.{◌≡◌, ◌++◌, take}
use Rattle.std.specs.Prelude.{string_bytes}
use Rattle.std.specs.List.{flat_map}
use Rattle.run_report.specs.Reports.{entry_line}
use Rattle.run_report.proofs.report.push_history.Given as goal

abbrev pub invariant-loop-entry : goal.invariant-loop-entry
invariant-loop-entry l = string_bytes l.out ≡ string_bytes l.fn.out ++ flat_map entry_line (take l.entry-index l.history)
