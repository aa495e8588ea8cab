use Rattle.std.proofs.Common.{◌≡◌}
use Rattle.expression_runs.specs.Counts.{rows_giving, after_turns}
use Rattle.expression_runs.proofs.repeated.Given as goal

abbrev pub invariant-loop-turn : goal.invariant-loop-turn
invariant-loop-turn l = l.count ≡ after_turns l._turn (rows_giving l.wanted l.e l.rows)
