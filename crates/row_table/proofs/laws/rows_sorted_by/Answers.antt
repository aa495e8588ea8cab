use Rattle.row_table.proofs.Sorting.{ascends-sorted, sorted_from_ascends}
use Rattle.row_table.specs.Sorting.{sorted_by}
use Rattle.row_table.proofs.Stable.{sorted_by-stable, sorted_by-only}
use Rattle.row_table.proofs.laws.rows_sorted_by.Goals as goal

pub returns : goal.returns
returns c = record {
  ascending = λ order total rows. sorted_from_ascends order total (sorted_by order rows) (ascends-sorted order total rows);
  ties_in_place = λ order total rows. sorted_by-stable order total rows;
  no_other = λ order total xs ys. sorted_by-only order total xs ys;
}
