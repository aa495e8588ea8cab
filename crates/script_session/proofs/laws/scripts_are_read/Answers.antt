use Rattle.script_session.proofs.ReadScripts.{scripts_are_read}
use Rattle.script_session.proofs.laws.scripts_are_read.Goals as goal

pub returns : goal.returns
returns c = scripts_are_read
