use Rattle.script_evaluation.proofs.Staged.{verb_given}
use Rattle.script_evaluation.proofs.evaluation.with_verb.Goals as goal

pub returns-in-Ok : goal.returns-in-Ok
returns-in-Ok c tables e is behind = verb_given tables e c.args.stage c.args.at c.args.verb.now c.args.shape c.in-Ok.tree c.in-Ok.ensures is behind
