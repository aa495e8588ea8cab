-- Shapes: tables without their rows.
use Rattle.std.specs.Prelude.{ℕ, List, IsTrue}
use Rattle.row_table.specs.declared.field.Field.{Field}
use Rattle.row_table.specs.declared.table.Mark.{Mark}
use Rattle.row_table.specs.Tables.{TableValue, names_differ, are_groups}

-- a shape as contracts see it
pub record ShapeValue : Type 0 where
  pub schema : List Field
  pub groups : List (List ℕ)
  pub mark : Mark

-- names are distinct, and groups are distinct names of columns
pub record IsShape (x : ShapeValue) : Type 0 where
  pub named : IsTrue (names_differ x.schema)
  pub grouped : IsTrue (are_groups x.schema x.groups)

abbrev pub shape_of : TableValue → ShapeValue
shape_of t = record { schema = t.schema; groups = t.groups; mark = t.mark }
