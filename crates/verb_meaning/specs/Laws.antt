-- What holds of the meaning of verbs, whatever the tables.
use Rattle.row_table.specs.Tables.{TableValue, IsTable}
use Rattle.row_table.specs.SameTables.{SameTables}
use Rattle.verb_forms.specs.declared.verb.Verb.{Verb}
use Rattle.verb_forms.specs.Shapes.{shape_of}
use Rattle.verb_forms.specs.Suits.{Suits}
use Rattle.verb_meaning.specs.Meaning.{meaning}

-- of the same tables an accepted verb gives the same tables
abbrev pub SameOfSame : Type 0
SameOfSame = (v : Verb) (x y : TableValue) → Suits v (shape_of x) → SameTables x y → SameTables (meaning v x) (meaning v y)

-- of a table an accepted verb gives a table
abbrev pub TableOfTable : Type 0
TableOfTable = (v : Verb) (x : TableValue) → Suits v (shape_of x) → IsTable x → IsTable (meaning v x)
