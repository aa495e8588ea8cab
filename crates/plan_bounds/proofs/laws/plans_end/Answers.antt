use Rattle.plan_nodes.specs.Plans.{machine_plan}
use Rattle.plan_bounds.specs.Bounds.{rows_bound, batches_bound}
use Rattle.plan_bounds.proofs.laws.plans_end.Goals as goal

pub returns : goal.returns
returns c nodes tables pace is on es legal =
    c.no_more_entries.ensures (machine_plan nodes tables pace)
    (c.plans_are_well_formed.ensures.lawful nodes tables pace is on) (c.plans_are_well_formed.ensures.well_formed nodes tables pace is on)
    (rows_bound nodes tables pace.batch) (batches_bound nodes tables pace.batch) (c.bounds_are_budgets.ensures nodes tables pace is on) es legal
