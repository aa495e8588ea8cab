use Rattle.std.proofs.Common.{◌≡◌, ◌++◌, [], List, ℕ, map, sym, ◌∙◌, ap}
use Rattle.std.specs.List.{flat_map}
use Rattle.std.proofs.lemmas.Result.{IfOk-weaker}
use Rattle.csv.specs.Records.{fields_of}
use Rattle.table_print.specs.Cells.{heading, written_row}
use Rattle.table_print.specs.CsvText.{csv_line, csv_text}
use Rattle.table_print.specs.Writers.{HasWritten}
use Rattle.table_print.proofs.Lines.{some-same}
use Rattle.row_table.specs.Tables.{TableValue}
use Rattle.table_print.proofs.csv_text.write_csv.Goals as goal

pub written_text-requires : goal.written_text-requires
written_text-requires c = (_, c.in_ok-put_rows.ensures _ (c.in_ok-put_line.ensures [] c.new_writer-writer.ensures))

pub returns : goal.returns
unfolding csv_text
returns c =
    let has = c.in_ok-put_rows.ensures _ (c.in_ok-put_line.ensures [] c.new_writer-writer.ensures) in
    let first = c.in_ok-fill_headings.ensures.cells ∙ ap (map heading) (c.as_slice.ensures ∙ ap (λ (v : TableValue). v.schema) c.t.view_is) in
    let rest = flat_map (λ row. csv_line (written_row row)) c.args.t.now.rows in
    IfOk-weaker c.written_text.result (λ text. HasWritten c.put_rows.new.writer text) (λ text. text ≡ csv_text c.args.t.now)
    (λ text got.
    some-same text (csv_line (fields_of c.fill_headings.new.line) ++ rest) (sym got.bytes ∙ has.bytes) ∙ ap (λ (f : List (List ℕ)). csv_line f ++ rest) first)
    c.written_text.ensures
