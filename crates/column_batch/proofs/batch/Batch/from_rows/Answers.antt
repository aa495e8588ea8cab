use Rattle.column_batch.proofs.Fitting.{fits_made}
use Rattle.column_batch.proofs.batch.Batch.from_rows.Goals as goal

pub invariant_of-result : goal.invariant_of-result
invariant_of-result c = fits_made c.args.schema.now c.args.rows.now _ _ c.in_ok-kinds.ensures c.in_ok-rows.ensures c.requires
