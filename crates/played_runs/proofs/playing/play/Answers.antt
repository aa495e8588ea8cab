use Rattle.std.proofs.Common.{IfOk, subst}
use Rattle.plan_store.specs.Told.{Given}
use Rattle.played_runs.specs.Hands.{IsPlayed}
use Rattle.played_runs.proofs.playing.play.Goals as goal

pub returns : goal.returns
returns g c = subst (λ (x : Given). IfOk c.outcome.result (IsPlayed x)) c.loop.invariant.0 c.outcome.ensures
