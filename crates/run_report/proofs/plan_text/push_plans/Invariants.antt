use Rattle.std.proofs.Common.{◌≡◌, ◌++◌, ◌+◌, map, drop}
use Rattle.std.specs.Prelude.{string_bytes}
use Rattle.run_report.specs.PlanTexts.{stages_from}
use Rattle.run_report.proofs.plan_text.push_plans.Given as goal

abbrev pub invariant-loop-place : goal.invariant-loop-place
invariant-loop-place l =
    string_bytes l.out ++ stages_from (l.place + 1) (map (λ run. run.plan.nodes) (drop l.place l.runs))
    ≡ string_bytes l.fn.out ++ stages_from 1 (map (λ run. run.plan.nodes) l.runs)
