use Rattle.std.proofs.Common.{◌≡◌, true, length, get_or, map, take, sym, ◌∙◌, ap}
use Rattle.std.proofs.lemmas.List.{length-map, map_more}
use Rattle.row_table.specs.Tables.{fit_rows}
use Rattle.scalar_fns.specs.Written.{written}
use Rattle.table_print.specs.Cells.{written_row}
use Rattle.table_print.specs.Widths.{widened, widened_by}
use Rattle.table_print.proofs.Values.{item-values, item-length}
use Rattle.table_print.proofs.Columns.{by-more}
use Rattle.table_print.proofs.column.widen_to_rows.Goals as goal

pub fill_values-requires : goal.fill_values-requires
fill_values-requires c =
    let filled : fit_rows c.t.inside.schema c.as_slice-rows.result.now ≡ true = rw c.as_slice-rows.ensures c.t.invariant.filled in
    item-values c.t.inside.schema c.as_slice-rows.result.now c.loop-row.row-index c.row-item.result c.as_slice.result.now filled c.loop-row-test.true c.row-item.is c.as_slice.ensures

pub widen-requires : goal.widen-requires
widen-requires c =
    let filled : fit_rows c.t.inside.schema c.as_slice-rows.result.now ≡ true = rw c.as_slice-rows.ensures c.t.invariant.filled in
    let cells = item-length c.t.inside.schema c.as_slice-rows.result.now c.loop-row.row-index c.row-item.result c.as_slice.result.now filled c.loop-row-test.true c.row-item.is c.as_slice.ensures in
    c.loop-row.auto.columns ∙ c.requires ∙ sym (ap (λ t. length t.schema) c.t.view_is) ∙ sym (ap length c.in_ok-fill_values.ensures.cells ∙ length-map c.as_slice.result.now written ∙ cells)

pub loop-row-preserved : goal.loop-row-preserved
loop-row-preserved c =
    let rows = c.as_slice-rows.result.now in
    let row = get_or rows c.loop-row.row-index c.row-item.result in
    let filled = c.in_ok-fill_values.ensures.cells ∙ ap written_row (c.as_slice.ensures ∙ c.row-item.is) in
    c.widen.ensures ∙ ap (widened c.loop-row.columns) filled ∙ ap (λ cs. widened cs (written_row row)) c.loop-row.invariant
    ∙ sym (by-more c.args.columns.now (map written_row (take c.loop-row.row-index rows)) (written_row row))
    ∙ ap (widened_by c.args.columns.now) (sym (map_more written_row rows c.loop-row.row-index c.row-item.result c.loop-row-test.true))
