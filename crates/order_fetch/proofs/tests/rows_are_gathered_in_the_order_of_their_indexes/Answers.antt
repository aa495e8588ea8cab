use Rattle.std.proofs.Common.{[], ◌∷◌, refl}
use Rattle.scalar_value.specs.declared.value.ColType.TheVariants as type
use Rattle.order_fetch.proofs.tests.rows_are_gathered_in_the_order_of_their_indexes.Goals as goal

pub gathered-requires-clause-fits : goal.gathered-requires-clause-fits
gathered-requires-clause-fits g c κs = ((type.Int ∷ []) ∷ [], refl, c.in_ok-late.ensures, c.in_ok-early.ensures)
