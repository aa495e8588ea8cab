use Rattle.std.proofs.Common.{◌∙◌, ap₂, drop}
use Rattle.column_batch.specs.Batches.{fit_kinds}
use Rattle.column_batch.proofs.Fitting.{fit_kinds-take, fit_kinds-drop}
use Rattle.plan_nodes.proofs.tests.join.FirstJoin.part.Goals as goal

pub of_rows-out-requires : goal.of_rows-out-requires
of_rows-out-requires c =
    ap₂ fit_kinds c.in_ok-columns.ensures c.in_ok-some.ensures
    ∙ fit_kinds-take _ _ (drop c.args.from c.args.rows.now) (fit_kinds-drop _ c.args.from c.args.rows.now c.requires)
