use Rattle.std.proofs.Common.{[], ◌∷◌, IsTrue, sym, subst}
use Rattle.plan_nodes.specs.Operators.{OpMeaning}
use Rattle.stream_ops.proofs.Tested.{kinds, filter-fits}
use Rattle.stream_ops.proofs.tests.rows_are_kept_where_a_condition_is_true.Goals as goal

pub streamed-requires-after_bounds : goal.streamed-requires-after_bounds
streamed-requires-after_bounds g c κs =
    (kinds ∷ [], subst (λ (m : OpMeaning). IsTrue (m.fits (kinds ∷ []))) (sym c.new-op.ensures) filter-fits, c.in_ok-batch.ensures)
