use Rattle.std.proofs.Common.{◌≡◌, ◌≤◌, take}
use Rattle.expression_runs.specs.Counts.{rows_giving}
use Rattle.expression_runs.proofs.count_rows.Given as goal

abbrev pub invariant-loop-row : goal.invariant-loop-row
invariant-loop-row l = record { count : l.count ≡ rows_giving l.wanted l.e (take l.row-index l.rows); within : l.count ≤ l.row-index }
