use Rattle.std.proofs.Common.{[], ◌∷◌, IsTrue}
use Rattle.scalar_value.specs.declared.value.ColType.TheVariants as type
use Rattle.column_batch.specs.Batches.{fit_kinds}
use Rattle.hash_join.proofs.tests.rows_of.Given as goal

abbrev pub invariant-loop-key : goal.invariant-loop-key
invariant-loop-key l = IsTrue (fit_kinds (type.Int ∷ []) l.rows)
