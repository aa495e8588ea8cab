use Rattle.std.proofs.Common.{◌≡◌, take}
use Rattle.col_eval.specs.Columns.{evaluated}
use Rattle.col_eval.proofs.eval_batch.Given as goal

abbrev pub invariant-loop-row : goal.invariant-loop-row
invariant-loop-row l = l.values.items ≡ evaluated l.e (take l.row-index l.rows)
