use Rattle.std.proofs.Common.{◌≡◌, drop}
use Rattle.std.specs.List.{list_any}
use Rattle.row_table.specs.Tables.{among_texts}
use Rattle.verb_forms.specs.Columns.{name_at}
use Rattle.verb_forms.proofs.suiting.writes_group.Given as goal

abbrev pub invariant-loop-cell : goal.invariant-loop-cell
invariant-loop-cell l =
    list_any (λ cell. among_texts (name_at l.x.schema cell.0) l.x.groups) l.cell-items ≡ list_any (λ cell. among_texts (name_at l.x.schema cell.0) l.x.groups) (drop l.cell-index l.cell-items)
