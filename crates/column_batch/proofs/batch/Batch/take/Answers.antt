use Rattle.std.proofs.Common.{rules}
use Rattle.column_batch.proofs.Fitting.{fits_placed}
use Rattle.column_batch.proofs.batch.Batch.take.Goals as goal

pub invariant_of-result : goal.invariant_of-result
invariant_of-result c = fits_placed c.self.inside.kinds c.self.inside.rows c.args.places.now c.in_ok-copied_kinds.field-0 c.in_ok-copy_rows_at.field-0 (search rules) (search rules) (search rules) c.self.invariant
