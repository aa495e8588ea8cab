-- A table that is printed as CSV is read back as the same table.
use Rattle.std.specs.Prelude.{◌≡◌, ◌≤◌, Bool, false, List, [], ◌∷◌, length, codes, Ok, IsTrue}
use Rattle.std.specs.List.{All, starts_with}
use Rattle.std.specs.Prelude.{nat_eq}
use Rattle.std.specs.Str.{IsUtf8}
use Rattle.scalar_value.specs.declared.value.Value.{Value}
use Rattle.scalar_value.specs.declared.value.Value.TheVariants.{Missing, Int, Dec, Chr, Day, Lgl}
use Rattle.scalar_value.specs.Numbers.{is_int, is_dec}
use Rattle.row_table.specs.declared.field.Field.{Field}
use Rattle.row_table.specs.Tables.{TableValue, IsTable}
use Rattle.csv_source.specs.Typed.{typed, kept_table}
use Rattle.table_print.specs.CsvText.{csv_text}

-- a name of a column in a file: UTF-8, and not empty
abbrev pub IsFileName : Field → Type 0
IsFileName f = IsUtf8 f.name × (f.name ≡ [] → ⊥)

-- a value that is read as it is printed: a number within its range, and a text that is UTF-8 and not the two letters NA, which
-- stand for a missing value
abbrev pub IsPlain : Value → Type 0
IsPlain Missing = Unit {0}
IsPlain (Int z) = IsTrue (is_int z)
IsPlain (Dec m) = IsTrue (is_dec m)
IsPlain (Chr text) = IsUtf8 text × (text ≡ codes "NA" → ⊥)
IsPlain (Day d) = Unit {0}
IsPlain (Lgl b) = Unit {0}

-- whether the file would begin with a UTF-8 mark, which a reader passes over
abbrev pub begins_with_mark : List Field → Bool
begins_with_mark [] = false
begins_with_mark (f ∷ fs) = starts_with nat_eq f.name (239 ∷ 187 ∷ 191 ∷ [])

-- A table that a file can hold: 1 to 1,024 columns, each with a name, and no text that is read otherwise than it was.
pub record IsFileTable (t : TableValue) : Type 0 where
  pub table : IsTable t
  pub some : 1 ≤ length t.schema
  pub within : length t.schema ≤ 1024
  pub names : All IsFileName t.schema
  pub unmarked : begins_with_mark t.schema ≡ false
  pub texts : All (All IsPlain) t.rows

-- its text is read as its columns and rows, in their order and without groups
abbrev pub PrintedIsRead : Type 0
PrintedIsRead = (t : TableValue) → IsFileTable t → typed (csv_text t) ≡ Ok (kept_table t.schema t.rows)
