use Rattle.script_evaluation.proofs.Staged.{call_given}
use Rattle.script_evaluation.proofs.evaluation.with_call.Goals as goal

pub returns-in-Ok : goal.returns-in-Ok
returns-in-Ok c tables e is = call_given tables e c.args.stage c.args.call.now c.in-Ok.verb c.in-Ok.shape c.with_verb.result c.in-Ok.ensures.given c.in-Ok.ensures.suits.1 is (c.with_verb.ensures tables e is)
