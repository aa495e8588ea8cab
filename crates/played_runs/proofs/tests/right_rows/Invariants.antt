use Rattle.std.specs.Prelude.{IsTrue}
use Rattle.row_table.specs.Tables.{fit_rows}
use Rattle.played_runs.specs.Examples.{right_schema}
use Rattle.played_runs.proofs.tests.right_rows.Given as goal

abbrev pub invariant-loop-k : goal.invariant-loop-k
invariant-loop-k l = IsTrue (fit_rows right_schema l.rows)
