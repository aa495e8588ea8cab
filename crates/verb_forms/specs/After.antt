-- The columns, groups and mark of a table after a verb.
use Rattle.std.specs.Prelude.{ℕ, List, [], ◌∷◌, fold, Result, Ok, Err}
use Rattle.scalar_value.specs.declared.value.ColType.{ColType}
use Rattle.scalar_value.specs.declared.value.ColType.TheVariants.{Lgl}
use Rattle.row_table.specs.declared.field.Field.{Field}
use Rattle.na_expr.specs.declared.expr.TypeFault.{TypeFault}
use Rattle.na_expr.specs.Types.{typed}
use Rattle.group_rules.specs.Groups.{selected_groups}
use Rattle.verb_forms.specs.declared.part.Part.{Part}
use Rattle.verb_forms.specs.declared.verb.Verb.{Verb}
use Rattle.verb_forms.specs.declared.verb.Verb.TheVariants.{Filter, Mutate, Select, Rename, Relocate, GroupBy, Ungroup, DropNa, ReplaceNa}
use Rattle.verb_forms.specs.Shapes.{ShapeValue}
use Rattle.verb_forms.specs.Columns.{names_at, with_column, chosen_columns, renamings}

-- the type of an expression over these columns; lgl where it has none
abbrev pub type_or_lgl : Result ColType TypeFault → ColType
type_or_lgl (Ok t) = t
type_or_lgl (Err f) = Lgl

abbrev pub part_kind : List Field → Part → ColType
part_kind schema part = type_or_lgl (typed schema part.value)

-- the columns after one expression of `mutate`, and after one after the other
abbrev pub with_part : List Field → List ℕ × Part → List Field
with_part schema value = with_column value.0 (part_kind schema value.1) schema

abbrev pub with_parts : List Field → List (List ℕ × Part) → List Field
with_parts schema values = fold with_part schema values

-- the columns that are chosen, with the groups under their new names
abbrev pub after_choice : List (ℕ × List ℕ) → ShapeValue → ShapeValue
after_choice chosen x =
    record x { schema = chosen_columns x.schema chosen; groups = selected_groups (renamings x.schema chosen) x.groups }

-- the shape after a verb, where the verb suits the shape; the verbs that are not named here are not built yet
abbrev pub after : Verb → ShapeValue → ShapeValue
after (Filter by conditions) x = x
after (Mutate by values) x = record x { schema = with_parts x.schema values }
after (Select chosen) x = after_choice chosen x
after (Rename chosen) x = after_choice chosen x
after (Relocate chosen) x = after_choice chosen x
after (GroupBy columns) x = record x { groups = names_at x.schema columns }
after Ungroup x = record x { groups = [] }
after (DropNa columns) x = x
after (ReplaceNa cells) x = x
after v x = x
