use Rattle.plan_compile.proofs.Making.{project_made}
use Rattle.plan_compile.proofs.steps.value_step.Goals as goal

pub returns : goal.returns
returns c =
    project_made c.args.schema.now c.in_ok-copy-2.field-0 c.in_ok-with_part.field-0 c.args.value.now c.place_of-place.result c.in_ok-copy.field-0 c.in_ok-all_columns.field-0 c.in_ok-columns.columns
    c.place_of-place.ensures c.in_ok-copy.ensures c.in_ok-all_columns.ensures c.in_ok-columns.ensures c.in_ok-copy-2.ensures c.in_ok-with_part.ensures
