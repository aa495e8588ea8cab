use Rattle.std.proofs.Common.{◌≡◌, ◌*◌, take, drop, ◌∙◌, ap₂}
use Rattle.column_batch.specs.Batches.{fit_kinds}
use Rattle.column_batch.proofs.Fitting.{fit_kinds-take, fit_kinds-drop}
use Rattle.order_fetch.proofs.gather.Gathered.part.Goals as goal

pub of_rows-requires : goal.of_rows-requires
of_rows-requires c =
    let kinds : c.in_ok-kinds.kinds ≡ c.args.self.now.kinds = cc (c.in_ok-kinds.ensures, c.as_slice-2.ensures) in
    let rows : c.in_ok-rows.rows ≡ take c.args.size (drop (c.args.k * c.args.size) c.args.self.now.rows) = cc (c.in_ok-rows.ensures, c.as_slice.ensures) in
    ap₂ fit_kinds kinds rows
    ∙ fit_kinds-take c.args.self.now.kinds c.args.size (drop (c.args.k * c.args.size) c.args.self.now.rows)
    (fit_kinds-drop c.args.self.now.kinds (c.args.k * c.args.size) c.args.self.now.rows c.requires)
