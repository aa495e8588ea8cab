use Rattle.std.proofs.Common.{◌≡◌, ◌+◌, drop, take, map, true, length}
use Rattle.csv.specs.Records.{fields_of}
use Rattle.row_table.specs.declared.field.Field.{Field}
use Rattle.row_table.specs.Tables.{names_differ}
use Rattle.csv_source.specs.Fields.{name_of_text}
use Rattle.csv_source.specs.Steps.{each_ok}
use Rattle.csv_source.specs.Typed.{column_at, columns_of}
use Rattle.csv_source.proofs.Each.{after}
use Rattle.csv_source.proofs.header.read_header.Given as goal

abbrev pub invariant-loop-place : goal.invariant-loop-place
invariant-loop-place l = record {
  value : after l.columns.items (each_ok (column_at (fields_of l.header)) (l.place + 1) (drop l.place (fields_of l.header))) ≡ columns_of (fields_of l.header);
  count : length l.columns.items ≡ l.place;
  names : map (λ (f : Field). f.name) l.columns.items ≡ map name_of_text (take l.place (fields_of l.header));
  differ : names_differ l.columns.items ≡ true;
}
