use Rattle.std.proofs.Common.{[], ◌∷◌, ◌++◌, sym, ◌∙◌, ap₂, arith}
use Rattle.std.proofs.lemmas.List.FromFn.{map-range_with_len_more}
use Rattle.plan_compile.specs.Steps.{literals_for, or_literals}
use Rattle.plan_compile.proofs.steps.replaced_columns.Goals as goal

pub loop-at-preserved : goal.loop-at-preserved
loop-at-preserved c =
    c.in_ok-push.ensures.appended
    ∙ ap₂ (λ es e. es ++ e ∷ []) c.loop-at.invariant c.in_ok-or_literals.ensures
    ∙ sym (map-range_with_len_more (λ at. or_literals c.args.schema.now at (literals_for c.args.schema.now c.args.cells.now at)) 0 c.loop-at.at c.loop-at.at (omega arith))
