use Rattle.std.specs.Prelude.{IsTrue}
use Rattle.row_table.specs.Tables.{fit_rows}
use Rattle.played_runs.specs.Examples.{left_schema}
use Rattle.played_runs.proofs.tests.left_rows.Given as goal

abbrev pub invariant-loop-a : goal.invariant-loop-a
invariant-loop-a l = IsTrue (fit_rows left_schema l.rows)
