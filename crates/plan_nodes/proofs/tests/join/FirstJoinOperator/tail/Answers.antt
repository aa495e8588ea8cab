use Rattle.std.proofs.Common.{◌≡◌, ◌*◌, take, drop, ◌∙◌, ap₂}
use Rattle.column_batch.specs.Batches.{fit_kinds}
use Rattle.column_batch.proofs.Fitting.{fit_kinds-take, fit_kinds-drop}
use Rattle.plan_nodes.proofs.tests.join.FirstJoinOperator.tail.Goals as goal

pub of_rows-requires-2 : goal.of_rows-requires-2
of_rows-requires-2 c =
    let s = c.requires in
    let some : c.in_ok-rows.rows ≡ take c.args.self.now.size (drop (c.args.k * c.args.self.now.size) c.args.shared.now.ends) = cc c.in_ok-rows.ensures in
    ap₂ fit_kinds c.in_ok-columns-2.ensures some
    ∙ fit_kinds-take _ _ (drop (c.args.k * c.args.self.now.size) c.args.shared.now.ends) (fit_kinds-drop _ (c.args.k * c.args.self.now.size) c.args.shared.now.ends s.4.3)
