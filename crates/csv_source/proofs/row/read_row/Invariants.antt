use Rattle.std.proofs.Common.{◌≡◌, ◌+◌, drop}
use Rattle.std.specs.List.{zip}
use Rattle.csv.specs.Records.{fields_of}
use Rattle.csv_source.specs.Steps.{each_ok}
use Rattle.csv_source.specs.Typed.{row_at, value_at}
use Rattle.csv_source.proofs.Each.{after}
use Rattle.csv_source.proofs.row.read_row.Given as goal

abbrev pub invariant-loop-place : goal.invariant-loop-place
invariant-loop-place l = after l.values.items (each_ok (value_at l.number) (l.place + 1) (drop l.place (zip l.columns (fields_of l.fields)))) ≡ row_at l.columns l.number (fields_of l.fields)
