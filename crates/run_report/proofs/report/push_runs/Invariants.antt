use Rattle.std.proofs.Common.{◌≡◌, ◌++◌, ◌+◌, drop}
use Rattle.std.specs.Prelude.{string_bytes}
use Rattle.run_report.specs.Reports.{runs_from}
use Rattle.run_report.proofs.report.push_runs.Given as goal

abbrev pub invariant-loop-place : goal.invariant-loop-place
invariant-loop-place l = string_bytes l.out ++ runs_from (l.place + 1) (drop l.place l.runs) ≡ string_bytes l.fn.out ++ runs_from 1 l.runs
