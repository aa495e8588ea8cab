use Rattle.script_session.specs.Answer.{planned_at}
use Rattle.script_session.proofs.StageRuns.{plan_given, answered_given}
use Rattle.script_session.proofs.answer.result_of.Goals as goal

pub returns-in_ok-answered-in-Ok-clause-known : goal.returns-in_ok-answered-in-Ok-clause-known
returns-in_ok-answered-in-Ok-clause-known g c =
    let m = rw c.as_slice.ensures at c.in-Ok.ensures in (
      planned_at c.lone-setting.result m.0,
      plan_given c.args.words.now c.args.script.now c.args.tables c.lone-setting.result m.0 c.lone-setting.ensures.given m.1,
      answered_given c.args.words.now (planned_at c.lone-setting.result m.0) c.in-Ok.ran c.in_ok-answered-in-Ok.field-0 m.2 c.in_ok-answered-in-Ok.ensures,
    )
