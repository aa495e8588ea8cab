use Rattle.std.proofs.Common.{[], ◌∷◌}
use Rattle.scalar_value.specs.declared.value.ColType.TheVariants as type
use Rattle.hash_join.proofs.Tested.{fit-push}
use Rattle.hash_join.proofs.tests.rows_of.Goals as goal

pub loop-key-preserved : goal.loop-key-preserved
loop-key-preserved c = fit-push (type.Int ∷ []) c.loop-key.rows c.push.new.self c.in_ok-row_of.field-0 c.in_ok-push.ensures.appended c.loop-key.invariant c.in_ok-row_of.ensures
