use Rattle.plan_store.specs.Told.{plan_of, state_of}
use Rattle.run_state.proofs.Choices.{none_more}
use Rattle.run_state.proofs.state.RunState.first_work.Goals as goal

pub loop-place-preserved : goal.loop-place-preserved
loop-place-preserved g c = none_more (plan_of c.args.self.now.given) (state_of c.args.self.now) c.loop-place.place c.loop-place.invariant c.in_default.ensures.none
