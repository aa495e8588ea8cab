use Rattle.std.proofs.Common.{[], ◌∷◌, IsTrue, sym, subst}
use Rattle.plan_nodes.specs.Operators.{OpMeaning}
use Rattle.stream_ops.proofs.Tested.{kinds, project-fits}
use Rattle.stream_ops.proofs.tests.each_row_gives_the_values_of_the_expressions.Goals as goal

pub streamed-requires-after_bounds : goal.streamed-requires-after_bounds
streamed-requires-after_bounds g c κs = (
  kinds ∷ [],
  subst (λ (m : OpMeaning). IsTrue (m.fits (kinds ∷ []))) (sym c.new-op.ensures) (project-fits c.in_ok-list_of.field-0 c.in_ok-schema.schema c.in_ok-list_of.ensures c.in_ok-schema.ensures),
  c.in_ok-batch.ensures,
)
