-- What the tool prints: the answer to each order, and the line of a table's fault.
use Rattle.std.specs.Prelude.{ℕ, List, [], ◌∷◌, ◌++◌, length, Option, Some, None, Result, Ok, if◌then◌else◌, codes, decimal}
use Rattle.std.specs.Str.{bytes_eq}
use Rattle.row_table.specs.Tables.{TableValue}
use Rattle.csv_source.specs.declared.fault.TableFault.{TableFault}
use Rattle.csv_source.specs.declared.fault.TableKind.{TableKind}
use Rattle.csv_source.specs.declared.fault.TableKind.TheVariants as fault
use Rattle.csv_source.specs.Steps.{◌>>=◌}
use Rattle.csv_source.specs.Typed.{typed}
use Rattle.table_print.specs.CsvText.{csv_text}
use Rattle.table_print.specs.Aligned.{aligned_text}
use Rattle.table_runs.specs.declared.Order.{Order}
use Rattle.table_runs.specs.declared.Order.TheVariants.{Sizes, Csv, Aligned}

abbrev pub order_of : List ℕ → Option Order
order_of word =
    if bytes_eq word (codes "read") then Some Sizes
    else if bytes_eq word (codes "csv") then Some Csv
    else if bytes_eq word (codes "table") then Some Aligned
    else None

-- `R rows, C columns`
abbrev pub sizes_text : ℕ → ℕ → List ℕ
sizes_text rows columns = decimal rows ++ codes " rows, " ++ decimal columns ++ codes " columns" ++ 10 ∷ []

abbrev pub output_of : Order → TableValue → List ℕ
output_of Sizes t = sizes_text (length t.rows) (length t.schema)
output_of Csv t = csv_text t
output_of Aligned t = aligned_text t

-- of the table that the bytes are, or their first fault
abbrev pub answer_of : Order → List ℕ → Result (List ℕ) TableFault
answer_of order bytes = typed bytes >>= (λ t. Ok (output_of order t))

abbrev pub kind_text : TableKind → List ℕ
kind_text fault.NotText = codes "NotText"
kind_text fault.NoHeader = codes "NoHeader"
kind_text fault.TooManyColumns = codes "TooManyColumns"
kind_text fault.HeaderType = codes "HeaderType"
kind_text fault.NameTwice = codes "NameTwice"
kind_text fault.Ragged = codes "Ragged"
kind_text fault.BadField = codes "BadField"

-- `KIND row R column C`
abbrev pub fault_text : TableFault → List ℕ
fault_text f = kind_text f.kind ++ codes " row " ++ decimal f.row ++ codes " column " ++ decimal f.column ++ 10 ∷ []
