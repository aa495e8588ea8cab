use Rattle.std.proofs.Common.{◌≡◌, true, length, sym, ◌∙◌, ap}
use Rattle.std.proofs.lemmas.List.{length-map}
use Rattle.row_table.specs.Tables.{fit_rows}
use Rattle.scalar_fns.specs.Written.{written}
use Rattle.table_print.proofs.Values.{item-values, item-length}
use Rattle.table_print.proofs.aligned.push_rows.Goals as goal

pub fill_values-requires : goal.fill_values-requires
fill_values-requires c =
    let filled : fit_rows c.t.inside.schema c.as_slice-rows.result.now ≡ true = rw c.as_slice-rows.ensures c.t.invariant.filled in
    item-values c.t.inside.schema c.as_slice-rows.result.now c.loop-row.row-index c.row-item.result c.as_slice.result.now filled c.loop-row-test.true c.row-item.is c.as_slice.ensures

pub push_line-requires : goal.push_line-requires
push_line-requires c =
    let filled : fit_rows c.t.inside.schema c.as_slice-rows.result.now ≡ true = rw c.as_slice-rows.ensures c.t.invariant.filled in
    let cells = item-length c.t.inside.schema c.as_slice-rows.result.now c.loop-row.row-index c.row-item.result c.as_slice.result.now filled c.loop-row-test.true c.row-item.is c.as_slice.ensures in
    c.requires ∙ sym (ap (λ t. length t.schema) c.t.view_is) ∙ sym (ap length c.in_ok-fill_values.ensures.cells ∙ length-map c.as_slice.result.now written ∙ cells)
