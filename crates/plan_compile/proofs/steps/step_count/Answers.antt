use Rattle.std.proofs.Common.{sym, ◌∙◌, ap, length}
use Rattle.plan_compile.specs.Steps.{steps_of}
use Rattle.plan_compile.proofs.Making.{values_count}
use Rattle.plan_compile.proofs.steps.step_count.Goals as goal

pub returns-in-Mutate : goal.returns-in-Mutate
returns-in-Mutate c schema = c.len.ensures ∙ values_count schema c.in-Mutate.values ∙ ap (λ v. length (steps_of v schema)) (sym c.in-Mutate.is)
