use Rattle.std.proofs.Common.{◌≡◌, ◌++◌, ◌+◌, drop}
use Rattle.std.specs.Prelude.{string_bytes}
use Rattle.run_report.specs.Reports.{peak_lines}
use Rattle.run_report.proofs.report.push_peaks.Given as goal

abbrev pub invariant-loop-place : goal.invariant-loop-place
invariant-loop-place l = string_bytes l.out ++ peak_lines (l.place + 1) (drop l.place l.peaks) ≡ string_bytes l.fn.out ++ peak_lines 1 l.peaks
