use Rattle.std.proofs.Common.{◌≡◌, drop, map}
use Rattle.row_table.specs.declared.field.Field.{Field}
use Rattle.row_table.specs.Tables.{among_texts}
use Rattle.csv_source.proofs.header.is_named.Given as goal

abbrev pub invariant-loop-column : goal.invariant-loop-column
invariant-loop-column l = among_texts l.name (map (λ (f : Field). f.name) l.columns) ≡ among_texts l.name (map (λ (f : Field). f.name) (drop l.column-index l.columns))
