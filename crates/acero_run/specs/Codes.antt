-- The exit status of the program.
use Rattle.std.specs.Prelude.{ℕ}
use Rattle.script_session.specs.declared.status.Status.{Status}
use Rattle.script_session.specs.declared.status.Status.TheVariants.{Done, Usage, Script, Table, Read, Write, Memory}

abbrev pub code_of : Status → ℕ
code_of Done = 0
code_of Usage = 2
code_of Script = 3
code_of Table = 4
code_of Read = 5
code_of Write = 6
code_of Memory = 7
