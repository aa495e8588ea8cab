-- The records of a file, and of each record its fields.
use Rattle.std.specs.Prelude.{ℕ, List}
use Rattle.csv.specs.Reading.{AreRecords, default_config, records, strip_bom}
use Rattle.csv.specs.declared.parser.State.TheVariants as st

-- Those that csv reads with its default settings: fields between commas, quoted or not, lines that end with LF, CR or both,
-- empty lines passed over, and no record taken for a header. One UTF-8 mark at the start is passed over.
abbrev pub records_of : List ℕ → List (List (List ℕ))
records_of bytes = records default_config (strip_bom bytes)

-- They are all of them, one behind the other, each the next record of csv's machine, to the place from which there is none.
abbrev pub RecordsAreAll : Type 0
RecordsAreAll = (bytes : List ℕ) → AreRecords default_config st.StartRecord (strip_bom bytes) (records_of bytes)
