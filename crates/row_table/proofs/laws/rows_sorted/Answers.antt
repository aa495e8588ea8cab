use Rattle.row_table.proofs.Rows.{sorted_rows-sorted, sorted_rows-as_often, sorted_rows-alike, sorted_rows-only}
use Rattle.row_table.proofs.laws.rows_sorted.Goals as goal

pub returns : goal.returns
returns c = record {
  ascending = sorted_rows-sorted;
  as_often = sorted_rows-as_often;
  one_order = sorted_rows-alike;
  no_other = sorted_rows-only;
}
