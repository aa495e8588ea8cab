use Rattle.task_work.proofs.Given.{example_works}
use Rattle.task_work.proofs.tests.run.Goals as goal

pub run_task-requires-clause-work : goal.run_task-requires-clause-work
run_task-requires-clause-work g c κs within = example_works _ _ _ c.args.kept 2 c.args.work c.requires
