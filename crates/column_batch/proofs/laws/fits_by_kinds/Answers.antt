use Rattle.column_batch.proofs.Fitting.{fit_kinds-rows}
use Rattle.column_batch.proofs.laws.fits_by_kinds.Goals as goal

pub returns : goal.returns
returns c = fit_kinds-rows
