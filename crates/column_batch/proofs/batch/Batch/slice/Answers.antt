use Rattle.std.proofs.Common.{rules}
use Rattle.column_batch.proofs.Fitting.{fits_sliced}
use Rattle.column_batch.proofs.batch.Batch.slice.Goals as goal

pub invariant_of-result : goal.invariant_of-result
invariant_of-result c = fits_sliced c.self.inside.kinds c.self.inside.rows c.args.from c.args.to c.in_ok-copied_kinds.field-0 c.in_ok-copy_rows.field-0 (search rules) (search rules) c.self.invariant
