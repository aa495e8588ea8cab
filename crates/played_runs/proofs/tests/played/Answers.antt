use Rattle.played_runs.proofs.Tested.{join_is_plan}
use Rattle.played_runs.proofs.tests.played.Goals as goal

pub play-requires-clause-planned : goal.play-requires-clause-planned
play-requires-clause-planned g c κs within = join_is_plan c.in_ok-plan.plan.nodes c.in_ok-plan.ensures

pub operators_of-requires-clause-plan : goal.operators_of-requires-clause-plan
operators_of-requires-clause-plan g c = join_is_plan c.in_ok-plan.plan.nodes c.in_ok-plan.ensures
