use Rattle.std.proofs.Common.{◌≡◌, ◌++◌, true, take, sym, ◌∙◌, ap, subst, append_assoc}
use Rattle.std.specs.List.{flat_map}
use Rattle.csv.specs.Records.{fields_of}
use Rattle.row_table.specs.Tables.{fit_rows}
use Rattle.table_print.specs.Cells.{written_row}
use Rattle.table_print.specs.CsvText.{csv_line}
use Rattle.table_print.specs.Writers.{HasWritten}
use Rattle.table_print.proofs.Values.{item-values}
use Rattle.table_print.proofs.Lines.{flat-more}
use Rattle.table_print.proofs.csv_text.put_rows.Goals as goal

pub fill_values-requires : goal.fill_values-requires
fill_values-requires c =
    let filled : fit_rows c.t.inside.schema c.as_slice-rows.result.now ≡ true = rw c.as_slice-rows.ensures c.t.invariant.filled in
    item-values c.t.inside.schema c.as_slice-rows.result.now c.loop-row.row-index c.row-item.result c.as_slice.result.now filled c.loop-row-test.true c.row-item.is c.as_slice.ensures

pub loop-row-preserved : goal.loop-row-preserved
loop-row-preserved c text has =
    let rows = c.as_slice-rows.result.now in
    let before = flat_map (λ row. csv_line (written_row row)) (take c.loop-row.row-index rows) in
    let filled = c.in_ok-fill_values.ensures.cells ∙ ap written_row (c.as_slice.ensures ∙ c.row-item.is) in
    let same =
    append_assoc text before (csv_line (fields_of c.fill_values.new.line)) ∙ ap (λ f. text ++ (before ++ csv_line f)) filled
    ∙ ap (λ t. text ++ t) (sym (flat-more (λ row. csv_line (written_row row)) rows c.loop-row.row-index c.row-item.result c.loop-row-test.true)) in
    subst (HasWritten c.put_line.new.writer) same (c.in_ok-put_line.ensures (text ++ before) (c.loop-row.invariant text has))
