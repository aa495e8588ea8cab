-- The typed table that the bytes of a file are, or their first fault.
use Rattle.std.specs.Prelude.{ℕ, ◌-◌, ◌==◌, nat_le, if◌then◌else◌, List, [], ◌∷◌, length, take, map, Result, Ok, Err}
use Rattle.std.specs.List.{zip}
use Rattle.std.specs.Option.{ok_or}
use Rattle.std.specs.Str.{is_utf8}
use Rattle.scalar_value.specs.declared.value.Value.{Value}
use Rattle.row_table.specs.declared.field.Field.{Field}
use Rattle.row_table.specs.declared.table.Mark.TheVariants.{Kept}
use Rattle.row_table.specs.Tables.{TableValue, among_texts}
use Rattle.csv_source.specs.declared.fault.TableFault.{TableFault}
use Rattle.csv_source.specs.declared.fault.TableKind.{TableKind}
use Rattle.csv_source.specs.declared.fault.TableKind.TheVariants as fault
use Rattle.csv_source.specs.Fields.{name_of_text, column_of_text, value_of_field}
use Rattle.csv_source.specs.Records.{records_of}
use Rattle.csv_source.specs.Steps.{◌>>=◌, each_ok}

-- a fault in this row and column, which count from 1; 0 is the header, and no column
abbrev pub fault_at : TableKind → ℕ → ℕ → TableFault
fault_at kind row column = record { kind = kind; row = row; column = column }

-- ---- the header

-- the column, whose name no field of the header before it has
abbrev pub unless_named : List (List ℕ) → ℕ → Field → Result Field TableFault
unless_named header place column =
    if among_texts column.name (map name_of_text (take (place - 1) header)) then Err (fault_at fault.NameTwice 0 place) else Ok column

-- the column at this place of the header, from 1
unfoldable pub column_at : List (List ℕ) → ℕ → List ℕ → Result Field TableFault
column_at header place text = do
  column ← ok_or (column_of_text text) (fault_at fault.HeaderType 0 place)
  unless_named header place column

unfoldable pub columns_of : List (List ℕ) → Result (List Field) TableFault
columns_of header = each_ok (column_at header) 1 header

-- ---- the rows

-- the value at this place of a row, from 1
unfoldable pub value_at : ℕ → ℕ → Field × List ℕ → Result Value TableFault
value_at row place cell = ok_or (value_of_field cell.0.kind cell.1) (fault_at fault.BadField row place)

-- the row of this number, from 1: a value for each column
unfoldable pub row_at : List Field → ℕ → List (List ℕ) → Result (List Value) TableFault
row_at columns row fields = if length fields == length columns then each_ok (value_at row) 1 (zip columns fields) else Err (fault_at fault.Ragged row 0)

-- ---- the table

-- its rows have the order of the file
abbrev pub kept_table : List Field → List (List Value) → TableValue
kept_table columns rows = record { schema = columns; groups = []; mark = Kept; rows = rows }

-- a header of at most 1,024 fields
abbrev pub few_enough : List (List ℕ) → Result (List (List ℕ)) TableFault
few_enough header = if nat_le (length header) 1024 then Ok header else Err (fault_at fault.TooManyColumns 0 1025)

-- the first record is the header, and the others are the rows
unfoldable pub table_of_records : List (List (List ℕ)) → Result TableValue TableFault
table_of_records [] = Err (fault_at fault.NoHeader 0 0)
table_of_records (first ∷ others) = do
  header ← few_enough first
  columns ← columns_of header
  rows ← each_ok (row_at columns) 1 others
  Ok (kept_table columns rows)

unfoldable pub typed : List ℕ → Result TableValue TableFault
typed bytes = if is_utf8 bytes then table_of_records (records_of bytes) else Err (fault_at fault.NotText 0 0)
