use Rattle.std.proofs.Common.{◌≡◌, ◌≤◌, List, ℕ, true, length}
use Rattle.std.specs.Str.{IsUtf8}
use Rattle.csv.specs.declared.parser.State.{State}
use Rattle.row_table.specs.Tables.{fit_rows, names_differ}
use Rattle.csv_source.specs.Readers.{IsAt}
use Rattle.csv_source.specs.Records.{records_of}
use Rattle.csv_source.specs.Steps.{each_ok}
use Rattle.csv_source.specs.Typed.{row_at, table_of_records}
use Rattle.csv_source.proofs.Each.{after}
use Rattle.csv_source.proofs.NextRecords.{IsBetween, rest_records}
use Rattle.csv_source.proofs.Tables.{finished}
use Rattle.csv_source.proofs.table.read_records.Given as goal

abbrev pub invariant-loop-number : goal.invariant-loop-number
invariant-loop-number l = record {
  few : length l.schema ≤ 1024;
  differ : names_differ l.schema ≡ true;
  fit : fit_rows l.schema l.rows.items ≡ true;
  state : State;
  left : List ℕ;
  at_left : IsAt l.reader state left;
  between : IsBetween state;
  text : IsUtf8 left;
  value : finished l.schema (after l.rows.items (each_ok (row_at l.schema) l.number (rest_records state left))) ≡ table_of_records (records_of l.text);
}
