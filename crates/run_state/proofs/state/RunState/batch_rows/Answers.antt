use Rattle.std.proofs.Common.{sym, ap}
use Rattle.plan_store.specs.Told.{site_of}
use Rattle.run_state.proofs.state.RunState.batch_rows.Goals as goal

pub returns : goal.returns
unfolding site_of
returns g c n = sym (ap (λ t. t.given.pace.batch) c.self.view_is)
