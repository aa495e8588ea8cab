use Rattle.std.proofs.Common.{◌≡◌, ◌++◌, drop}
use Rattle.std.specs.Prelude.{string_bytes}
use Rattle.csv.specs.Records.{fields_of}
use Rattle.table_print.specs.Aligned.{cells_from}
use Rattle.table_print.proofs.aligned.push_line.Given as goal

abbrev pub invariant-loop-place : goal.invariant-loop-place
invariant-loop-place l =
    string_bytes l.out ++ cells_from l.place (drop l.place l.columns) (drop l.place (fields_of l.line))
    ≡ string_bytes l.fn.out ++ cells_from 0 l.columns (fields_of l.line)
