use Rattle.std.proofs.Common.{◌∙◌, ap, is_eq}
use Rattle.row_table.proofs.Rows.{row_order-total, row_same-ties, row_same-decides}
use Rattle.row_table.proofs.laws.rows_in_order.Goals as goal

pub returns : goal.returns
returns c = record {
  total = row_order-total;
  ties_are_equal = λ x y h. (row_same-decides x y).0 (row_same-ties x y ∙ ap is_eq h);
  same_rows_are_equal = row_same-decides;
}
