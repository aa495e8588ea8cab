use Rattle.std.proofs.Common.{◌≡◌, drop}
use Rattle.row_table.specs.Tables.{has_name}
use Rattle.verb_forms.proofs.columns.has_name.Given as goal

abbrev pub invariant-loop-field : goal.invariant-loop-field
invariant-loop-field l = has_name l.name l.fields ≡ has_name l.name (drop l.field-index l.fields)
