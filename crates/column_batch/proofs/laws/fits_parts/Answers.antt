use Rattle.column_batch.proofs.Fitting.{fit_kinds-append, fit_kinds-take, fit_kinds-drop, fit_kinds-filter, fit_kinds-at}
use Rattle.column_batch.proofs.laws.fits_parts.Goals as goal

pub returns : goal.returns
returns c = record {
  joined = fit_kinds-append;
  taken = fit_kinds-take;
  dropped = fit_kinds-drop;
  filtered = fit_kinds-filter;
  placed = fit_kinds-at;
}
