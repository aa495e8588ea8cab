use Rattle.std.proofs.Common.{sym, ap, Ok, ◌∙◌}
use Rattle.plan_runs.proofs.Tested.{condition_step}
use Rattle.plan_runs.proofs.tests.step_of.Goals as goal

pub returns-in_ok-copy-in-Ok-Lgl : goal.returns-in_ok-copy-in-Ok-Lgl
returns-in_ok-copy-in-Ok-Lgl c =
    condition_step c.args.schema.now _ _ (sym c.type_of.ensures ∙ (c.in-Ok-Lgl.is ∙ ap (λ k. Ok k) c.in-Ok-Lgl.field-0-is)) c.in_ok-copy-in-Ok-Lgl.ensures
