-- The meaning of a verb: a table of a table.
use Rattle.std.specs.Prelude.{List}
use Rattle.scalar_value.specs.declared.value.Value.{Value}
use Rattle.row_table.specs.Tables.{TableValue}
use Rattle.verb_forms.specs.declared.verb.Verb.{Verb}
use Rattle.verb_forms.specs.Shapes.{ShapeValue, shape_of}
use Rattle.verb_forms.specs.After.{after}
use Rattle.verb_meaning.specs.Rows.{rows_after}

abbrev pub table_with : ShapeValue → List (List Value) → TableValue
table_with x rows = record { schema = x.schema; groups = x.groups; mark = x.mark; rows = rows }

-- the table after a verb, where the verb suits its shape
abbrev pub meaning : Verb → TableValue → TableValue
meaning v x = table_with (after v (shape_of x)) (rows_after v x.schema x.rows)
