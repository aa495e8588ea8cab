-- The texts that stand in a printed table.
use Rattle.std.specs.Prelude.{ℕ, List, map, codes, ◌++◌}
use Rattle.scalar_value.specs.declared.value.Value.{Value}
use Rattle.scalar_value.specs.declared.value.ColType.{ColType}
use Rattle.scalar_value.specs.declared.value.ColType.TheVariants as kind
use Rattle.scalar_fns.specs.Written.{written}
use Rattle.row_table.specs.declared.field.Field.{Field}

-- the name of a type
abbrev pub type_name : ColType → List ℕ
type_name kind.Int = codes "int"
type_name kind.Dec = codes "dec"
type_name kind.Chr = codes "chr"
type_name kind.Date = codes "date"
type_name kind.Lgl = codes "lgl"

-- a column's heading in a file: `name:type`
abbrev pub heading : Field → List ℕ
heading f = f.name ++ codes ":" ++ type_name f.kind

-- a column's type as it is shown: `<type>`
abbrev pub shown_type : Field → List ℕ
shown_type f = codes "<" ++ type_name f.kind ++ codes ">"

abbrev pub name_of : Field → List ℕ
name_of f = f.name

-- the texts of a row's values
abbrev pub written_row : List Value → List (List ℕ)
written_row row = map written row
