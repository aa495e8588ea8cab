-- The text of a table as CSV: its headings, then its rows, each line as the default writer of csv writes these fields.
use Rattle.std.specs.Prelude.{ℕ, List, map, ◌++◌}
use Rattle.std.specs.List.{flat_map}
use Rattle.csv.specs.Writing.{row_text, default_writer}
use Rattle.row_table.specs.Tables.{TableValue}
use Rattle.table_print.specs.Cells.{heading, written_row}

-- The fields with commas between them, and LF behind. A field with a comma, a quote or a line end stands between quotes, a
-- quote in it twice; a lone empty field stands as two quotes.
unfoldable pub csv_line : List (List ℕ) → List ℕ
csv_line fields = row_text default_writer fields

unfoldable pub csv_text : TableValue → List ℕ
csv_text t = csv_line (map heading t.schema) ++ flat_map (λ row. csv_line (written_row row)) t.rows
