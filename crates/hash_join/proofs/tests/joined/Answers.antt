use Rattle.std.proofs.Common.{[], ◌∷◌, ◌∙◌, ap}
use Rattle.scalar_value.specs.declared.value.ColType.TheVariants as type
use Rattle.column_batch.specs.Batches.{kinds_of}
use Rattle.plan_nodes.specs.Operators.{OpMeaning}
use Rattle.hash_join.proofs.Tested.{fits-here}
use Rattle.hash_join.proofs.tests.joined.Goals as goal

pub run-requires-clause-fits : goal.run-requires-clause-fits
run-requires-clause-fits g c κs within =
    let inputs = (type.Int ∷ []) ∷ (type.Int ∷ []) ∷ [] in (
      inputs,
      ap (λ (m : OpMeaning). m.fits inputs) c.new-op.ensures
          ∙ fits-here (kinds_of c.in_ok-schema_of.field-0) (kinds_of c.in_ok-schema_of-2.field-0) c.in_ok-spec.spec.left_keys c.in_ok-spec.spec.right_keys
          c.in_ok-schema_of.ensures c.in_ok-schema_of-2.ensures c.in_ok-spec.ensures.0 c.in_ok-spec.ensures.1,
      c.in_ok-left.ensures,
      c.in_ok-right.ensures,
    )
