use Rattle.std.proofs.Common.{◌≡◌, ◌++◌, ◌+◌, drop}
use Rattle.std.specs.Prelude.{string_bytes}
use Rattle.run_report.specs.PlanTexts.{node_lines}
use Rattle.run_report.proofs.plan_text.push_nodes.Given as goal

abbrev pub invariant-loop-place : goal.invariant-loop-place
invariant-loop-place l = string_bytes l.out ++ node_lines (l.place + 1) (drop l.place l.nodes) ≡ string_bytes l.fn.out ++ node_lines 1 l.nodes
