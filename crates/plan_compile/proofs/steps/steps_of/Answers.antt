use Rattle.std.proofs.Common.{◌≡◌, IfOk, sym, subst}
use Rattle.plan_compile.specs.Steps.{steps_of}
use Rattle.plan_compile.proofs.Making.{filter_made}
use Rattle.plan_compile.proofs.steps.steps_of.Goals as goal

pub returns-in_ok-filter_step-in-Filter : goal.returns-in_ok-filter_step-in-Filter
returns-in_ok-filter_step-in-Filter c =
    subst (λ v. IfOk c.one.result (λ steps. steps ≡ steps_of v c.args.schema.now)) (sym c.in-Filter.is)
    (filter_made c.args.schema.now c.in-Filter.conditions c.as_slice.result.now c.in_ok-conditions-in-Filter.conditions c.in_ok-filter_step-in-Filter.field-0 c.one.result
    c.as_slice.ensures c.in_ok-conditions-in-Filter.ensures c.in_ok-filter_step-in-Filter.ensures c.one.ensures)
