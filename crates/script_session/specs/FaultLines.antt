-- The one line that tells a refusal.
use Rattle.std.specs.Prelude.{ℕ, List, [], ◌∷◌, ◌++◌, codes, decimal}
use Rattle.csv_source.specs.declared.fault.TableFault.{TableFault}
use Rattle.csv_source.specs.declared.fault.TableKind.{TableKind}
use Rattle.csv_source.specs.declared.fault.TableKind.TheVariants as table
use Rattle.verb_types.specs.declared.fault.VerbKind.{VerbKind}
use Rattle.verb_types.specs.declared.fault.VerbKind.TheVariants as verb
use Rattle.script_session.specs.declared.script.ScriptFault.{ScriptFault}
use Rattle.script_session.specs.declared.script.ScriptKind.{ScriptKind}
use Rattle.script_session.specs.declared.script.ScriptKind.TheVariants as kind

abbrev pub fault_line : List ℕ → List ℕ
fault_line rest = codes "acero_run: " ++ rest

-- with the line's end
abbrev pub ended : List ℕ → List ℕ
ended text = text ++ 10 ∷ []

abbrev pub usage_line : List ℕ
usage_line = fault_line (ended (codes "bad command line"))

abbrev pub verb_text : VerbKind → List ℕ
verb_text verb.UnknownTable = codes "UnknownTable"
verb_text verb.UnknownColumn = codes "UnknownColumn"
verb_text verb.UnknownFunction = codes "UnknownFunction"
verb_text verb.WrongType = codes "WrongType"
verb_text verb.WrongArguments = codes "WrongArguments"
verb_text verb.DuplicateName = codes "DuplicateName"
verb_text verb.GroupChanged = codes "GroupChanged"
verb_text verb.ByOnGroups = codes "ByOnGroups"
verb_text verb.NotSummary = codes "NotSummary"
verb_text verb.SummaryReuse = codes "SummaryReuse"
verb_text verb.NoCommonKey = codes "NoCommonKey"
verb_text verb.NoOrdering = codes "NoOrdering"
verb_text verb.GroupGone = codes "GroupGone"
verb_text verb.OutOfProfile = codes "OutOfProfile"
verb_text verb.NotBuilt = codes "NotBuilt"

abbrev pub kind_text : ScriptKind → List ℕ
kind_text kind.NotText = codes "NotText"
kind_text kind.BadChar = codes "BadChar"
kind_text kind.OpenText = codes "OpenText"
kind_text kind.NumberRange = codes "NumberRange"
kind_text kind.Unexpected = codes "Unexpected"
kind_text kind.Unfinished = codes "Unfinished"
kind_text kind.TooDeep = codes "TooDeep"
kind_text (kind.Verb k) = verb_text k
kind_text kind.PlanTooLarge = codes "PlanTooLarge"

-- LINE:COLUMN: KIND
abbrev pub fault_text : ScriptFault → List ℕ
fault_text fault = decimal fault.place.line ++ (codes ":" ++ (decimal fault.place.column ++ (codes ": " ++ ended (kind_text fault.kind))))

-- PATH:LINE:COLUMN: KIND
abbrev pub script_line : List ℕ → ScriptFault → List ℕ
script_line path fault = fault_line (path ++ (codes ":" ++ fault_text fault))

abbrev pub table_text : TableKind → List ℕ
table_text table.NotText = codes "NotText"
table_text table.NoHeader = codes "NoHeader"
table_text table.TooManyColumns = codes "TooManyColumns"
table_text table.HeaderType = codes "HeaderType"
table_text table.NameTwice = codes "NameTwice"
table_text table.Ragged = codes "Ragged"
table_text table.BadField = codes "BadField"

-- NAME: KIND row ROW column COLUMN
abbrev pub table_line : List ℕ → TableFault → List ℕ
table_line name fault =
    fault_line (name ++ (codes ": " ++ (table_text fault.kind ++ (codes " row " ++ (decimal fault.row ++ (codes " column " ++ ended (decimal fault.column)))))))

abbrev pub unread_line : List ℕ → List ℕ
unread_line path = fault_line (codes "cannot read " ++ ended path)

abbrev pub long_line : List ℕ → List ℕ
long_line path = fault_line (path ++ ended (codes " is too long"))

abbrev pub write_line : List ℕ
write_line = fault_line (ended (codes "cannot write the result"))

abbrev pub memory_line : List ℕ
memory_line = fault_line (ended (codes "out of memory"))
