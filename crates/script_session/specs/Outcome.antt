-- The words by which the top call says what it did: which reads failed, what the output and the line of a
-- refusal took, and with which status.
use Rattle.std.specs.Prelude.{◌≡◌, ℕ, ◌<◌, ◌≤◌, List, [], ◌∷◌, length, take, Contains, ◌⊎◌, Option, Some, None, Result, Ok, Err}
use Rattle.scalar_value.specs.declared.memory.Or.{Or}
use Rattle.scalar_value.specs.declared.memory.Or.TheVariants.{Fault, Memory}
use Rattle.outside_io.specs.Counts.{Rose, FailedAt, GrewAt, NoneRose}
use Rattle.outside_io.specs.Outside.{Held, Takes, TakesPart}
use Rattle.csv_source.specs.declared.fault.TableFault.{TableFault}
use Rattle.command_words.specs.declared.words.Words.{Words}
use Rattle.command_words.specs.declared.words.BadWords.{BadWords}
use Rattle.command_words.specs.Settings.{settings_of}
use Rattle.script_session.specs.declared.status.Status.{Status}
use Rattle.script_session.specs.declared.status.Status.TheVariants as status
use Rattle.script_session.specs.declared.status.Refusal.{Refusal}
use Rattle.script_session.specs.declared.status.Stop.{Stop}
use Rattle.script_session.specs.declared.status.Stop.TheVariants.{Refused, Unread}
use Rattle.script_session.specs.declared.status.Answered.{Answered}
use Rattle.script_session.specs.declared.script.ScriptFault.{ScriptFault}
use Rattle.row_table.specs.Tables.{TableValue}
use Rattle.plan_store.specs.declared.setting.Setting.{Setting}
use Rattle.chain_plans.specs.Chains.{chain_rows}
use Rattle.verb_meaning.specs.Meaning.{table_with}
use Rattle.plan_compile.specs.Trees.{plan_of}
use Rattle.script_evaluation.specs.declared.stage.Stage.{Stage}
use Rattle.script_evaluation.specs.Evaluation.{Evaluated}
use Rattle.script_session.specs.declared.stage.Ran.{Ran}
use Rattle.script_session.specs.RunRecord.{Planned, IsRunOf, AreRuns}
use Rattle.script_session.specs.Answer.{answer, planned_at, printed, printed_of, paths_of, named_paths, paths_reached}
use Rattle.script_session.specs.FaultLines.{usage_line, script_line, table_line, unread_line, long_line, write_line, memory_line}

abbrev pub IsAmong : List ℕ → List (List ℕ) → Type 0
IsAmong path [] = ⊥
IsAmong path (p ∷ ps) = (path ≡ p) ⊎ IsAmong path ps

-- the words are accepted and name this path
abbrev pub IsNamed : List (List ℕ) → List ℕ → Type 0
IsNamed words path = IsAmong path (named_paths words)

-- A read of a path that the words name failed in this call: its count rose. First the counts of the names,
-- before and now, then those of all.
abbrev pub NamedReadFailed : List (List ℕ) → (List ℕ → Option ℕ) → (List ℕ → Option ℕ) → ℕ → ℕ → Type 0
NamedReadFailed words of_before of_now before now = (path : List ℕ) × IsNamed words path × FailedAt (of_before path) (of_now path) before now

-- the same where the count can tell, being below its end
abbrev pub NamedReadGrew : List (List ℕ) → (List ℕ → Option ℕ) → (List ℕ → Option ℕ) → ℕ → ℕ → Type 0
NamedReadGrew words of_before of_now before now = (path : List ℕ) × IsNamed words path × GrewAt (of_before path) (of_now path) before now

-- Where the files tell their bytes, the answer has no refusal before a place at which the words name the path.
abbrev pub Reaches : Option Held → List (List ℕ) → List ℕ → Type 0
Reaches None words path = Unit {0}
Reaches (Some held) words path = IsAmong path (paths_reached words held)

-- What a sink of lines took: a front of this line, and all of it where its count of faults didn't rise.
abbrev pub WritesLine : ℕ → ℕ → Option (List ℕ) → Option (List ℕ) → List ℕ → Type 0
WritesLine before now old new line = TakesPart old new line × ((Rose before now → ⊥) → Takes old new line)

-- The status, the bytes of the output and the line are those of the answer. Want of memory is free.
abbrev pub IsAnswer : Result (List ℕ) Refusal → Status → Option (List ℕ) → Option (List ℕ) → ℕ → ℕ → Option (List ℕ) → Option (List ℕ) → Type 0
IsAnswer given status.Memory old new before now err err' = Unit {0}
IsAnswer (Ok text) ended old new before now err err' = (ended ≡ status.Done) × Takes old new text × (err' ≡ err)
IsAnswer (Err refusal) ended old new before now err err' = (ended ≡ refusal.status) × (new ≡ old) × WritesLine before now err err' refusal.line

-- The output took the whole of the answer's bytes, or a front of them; nothing where the answer is a refusal.
abbrev pub IsTaken : Status → Result (List ℕ) Refusal → Option (List ℕ) → Option (List ℕ) → Type 0
IsTaken status.Done given old new = (text : List ℕ) × (given ≡ Ok text) × Takes old new text
IsTaken ended (Ok text) old new = TakesPart old new text
IsTaken ended (Err refusal) old new = new ≡ old

-- the answer is no refusal
abbrev pub IsGiven : Result (List ℕ) Refusal → Type 0
IsGiven (Ok text) = Unit {0}
IsGiven (Err refusal) = ⊥

abbrev pub IsReadOrMemory : Status → Type 0
IsReadOrMemory ended = (ended ≡ status.Read) ⊎ (ended ≡ status.Memory)

abbrev pub IsWriteOrMemory : Status → Type 0
IsWriteOrMemory ended = (ended ≡ status.Write) ⊎ (ended ≡ status.Memory)

abbrev pub IsUsageOrMemory : Status → Type 0
IsUsageOrMemory ended = (ended ≡ status.Usage) ⊎ (ended ≡ status.Memory)

-- P of a status whose output is nothing
abbrev pub OnSilent : Status → Type 0 → Type 0
OnSilent status.Done P = Unit {0}
OnSilent status.Usage P = P
OnSilent status.Script P = P
OnSilent status.Table P = P
OnSilent status.Read P = P
OnSilent status.Write P = Unit {0}
OnSilent status.Memory P = Unit {0}

-- the line tells a fault of the script at this path: its kind, and its place by line and column
abbrev pub IsScriptLine : List ℕ → List ℕ → Type 0
IsScriptLine path line = (fault : ScriptFault) × (line ≡ script_line path fault)

-- the line tells a fault of a table that the words name
abbrev pub IsTableLine : Words → List ℕ → Type 0
IsTableLine named line = (word : List ℕ × List ℕ) × Contains named.tables word × (fault : TableFault) × (line ≡ table_line word.0 fault)

-- The line of a refusal, by its status. For Read a read of a path of the words failed, and the answer comes
-- to that path; or no read failed, and the file of such a path is too long.
module _ (words : List (List ℕ)) (told : Option Held) (of_before of_now : List ℕ → Option ℕ) (before now : ℕ) where
  abbrev pub IsReadLine : List ℕ → List ℕ → Type 0
  IsReadLine path line =
      ((line ≡ unread_line path) × FailedAt (of_before path) (of_now path) before now × Reaches told words path)
      ⊎ ((line ≡ long_line path) × NoneRose before now of_before of_now)

  abbrev pub IsFaultLine : Status → List ℕ → Type 0
  IsFaultLine status.Done line = ⊥
  IsFaultLine status.Usage line = line ≡ usage_line
  IsFaultLine status.Script line = (named : Words) × (settings_of words ≡ Ok named) × IsScriptLine named.script line
  IsFaultLine status.Table line = (named : Words) × (settings_of words ≡ Ok named) × IsTableLine named line
  IsFaultLine status.Read line = (path : List ℕ) × IsNamed words path × IsReadLine path line
  IsFaultLine status.Write line = line ≡ write_line
  IsFaultLine status.Memory line = line ≡ memory_line

-- What err took: nothing for Done, and else a front of the line, all of it where its count didn't rise.
abbrev pub TellsLine : Status → ℕ → ℕ → Option (List ℕ) → Option (List ℕ) → (List ℕ → Type 0) → Type 0
TellsLine status.Done before now old new P = new ≡ old
TellsLine ended before now old new P = (line : List ℕ) × P line × WritesLine before now old new line

-- ---- what the steps of the answer say

-- what a step gives is what its definition gives; a read that failed is told elsewhere, want of memory is free
abbrev pub Comes : {T : Type 0} → Result T (Or Stop) → Result T Refusal → Type 0
Comes (Ok x) given = given ≡ Ok x
Comes (Err (Fault (Refused refusal))) given = given ≡ Err refusal
Comes (Err (Fault (Unread path))) given = Unit {0}
Comes (Err Memory) given = Unit {0}

-- the same, where a relation ties it to what is given
abbrev pub ComesBy : {T A : Type 0} → (A → T → Type 0) → Result T (Or Stop) → Result A Refusal → Type 0
ComesBy {T} {A} R (Ok x) given = (a : A) × (given ≡ Ok a) × R a x
ComesBy R (Err (Fault (Refused refusal))) given = given ≡ Err refusal
ComesBy R (Err (Fault (Unread path))) given = Unit {0}
ComesBy R (Err Memory) given = Unit {0}

-- what is printed of a plan and its run, with that run
pub record IsAnswered (words : Words) (p : Planned) (a : Answered) : Type 0 where
  pub text : a.text ≡ printed words p a.runs
  pub runs : AreRuns (p ∷ []) a.runs

-- the answer is that of these words and files, where the record is this answer's own; of a refusal it is whatever the record
abbrev pub IsAnswerTo : List (List ℕ) → Held → Result Answered (Or Stop) → Type 0
IsAnswerTo words held (Ok a) = answer words held a.runs ≡ Ok a.text
IsAnswerTo words held (Err (Fault (Refused refusal))) = answer words held [] ≡ Err refusal
IsAnswerTo words held (Err (Fault (Unread path))) = Unit {0}
IsAnswerTo words held (Err Memory) = Unit {0}

-- the runs are those of the plans; a refusal has none
abbrev pub HasRuns : Result Answered (Or Stop) → List Planned → Type 0
HasRuns (Ok a) plans = AreRuns plans a.runs
HasRuns (Err (Fault (Refused refusal))) plans = plans ≡ []
HasRuns (Err (Fault (Unread path))) plans = Unit {0}
HasRuns (Err Memory) plans = Unit {0}

-- the plan of a stage over the table that it begins with
abbrev pub planned_run : Setting → Stage → TableValue → Planned
planned_run setting stage source =
    record { nodes = plan_of stage.tree; sources = source.rows ∷ []; setting = setting; table = table_with stage.shape (chain_rows stage.tree.steps source.rows) }

-- the table that a plan means, and its run
pub record IsRan (p : Planned) (ran : Ran) : Type 0 where
  pub table : ran.table ≡ p.table
  pub run : IsRunOf p ran.run

-- the plan of what a script means ran, or its fault is told
abbrev pub RunsMeaning : Setting → Result Ran (Or ScriptFault) → Result Evaluated ScriptFault → Type 0
RunsMeaning setting (Ok ran) given = (e : Evaluated) × (given ≡ Ok e) × IsRan (planned_at setting e) ran
RunsMeaning setting (Err (Fault fault)) given = given ≡ Err fault
RunsMeaning setting (Err Memory) given = Unit {0}

-- what is printed of what a plan gave, with its run
pub record IsPrintedOf (words : Words) (ran : Ran) (a : Answered) : Type 0 where
  pub text : a.text ≡ printed_of words ran.table a.runs
  pub runs : a.runs ≡ ran.run ∷ []

-- the file at the path is too long
abbrev pub IsTooLong : List ℕ → Refusal → Type 0
IsTooLong path refusal = (refusal.status ≡ status.Read) × (refusal.line ≡ long_line path)

-- a refusal of a TABLE word: a fault of its table, or its file is too long
abbrev pub IsTableStop : List ℕ × List ℕ → Refusal → Type 0
IsTableStop word refusal =
    ((refusal.status ≡ status.Table) × ((fault : TableFault) × (refusal.line ≡ table_line word.0 fault))) ⊎ IsTooLong word.1 refusal

-- P of a refusal, and Q of a path whose read failed
abbrev pub StopsBy : {T : Type 0} → Result T (Or Stop) → (Refusal → Type 0) → (List ℕ → Type 0) → Type 0
StopsBy (Ok x) P Q = Unit {0}
StopsBy (Err (Fault (Refused refusal))) P Q = P refusal
StopsBy (Err (Fault (Unread path))) P Q = Q path
StopsBy (Err Memory) P Q = Unit {0}

-- P of the path whose read failed, and Q with every other answer but want of memory
abbrev pub ByUnread : {T : Type 0} → Result T (Or Stop) → (List ℕ → Type 0) → Type 0 → Type 0
ByUnread (Ok x) P Q = Q
ByUnread (Err (Fault (Refused refusal))) P Q = Q
ByUnread (Err (Fault (Unread path))) P Q = P path
ByUnread (Err Memory) P Q = Unit {0}

-- a refusal of what the accepted words name, by its status
abbrev pub IsRefusedOf : Words → Status → List ℕ → Type 0
IsRefusedOf named status.Done line = ⊥
IsRefusedOf named status.Usage line = ⊥
IsRefusedOf named status.Script line = IsScriptLine named.script line
IsRefusedOf named status.Table line = IsTableLine named line
IsRefusedOf named status.Read line = (path : List ℕ) × IsAmong path (paths_of (Ok named)) × (line ≡ long_line path)
IsRefusedOf named status.Write line = ⊥
IsRefusedOf named status.Memory line = ⊥

-- a refusal of the words, or of what they name
abbrev pub IsRefused : List (List ℕ) → Status → List ℕ → Type 0
IsRefused words status.Usage line = (settings_of words ≡ Err (record {})) × (line ≡ usage_line)
IsRefused words ended line = (named : Words) × (settings_of words ≡ Ok named) × IsRefusedOf named ended line

-- where the words are refused, that is the answer, or there is no memory
abbrev pub IsUsage : {T : Type 0} → Result T (Or Stop) → Type 0
IsUsage (Ok x) = ⊥
IsUsage (Err (Fault (Refused refusal))) = refusal.status ≡ status.Usage
IsUsage (Err (Fault (Unread path))) = ⊥
IsUsage (Err Memory) = Unit {0}

-- the result was written whole, or a front of it where the output failed
abbrev pub IsWritten : Status → List ℕ → ℕ → ℕ → Option (List ℕ) → Option (List ℕ) → Type 0
IsWritten status.Done text before now old new = Takes old new text × (now ≡ before)
IsWritten status.Write text before now old new = TakesPart old new text × Rose before now
IsWritten ended text before now old new = ⊥

-- what err took of that
abbrev pub IsWriteTold : Status → ℕ → ℕ → Option (List ℕ) → Option (List ℕ) → Type 0
IsWriteTold status.Done before now old new = new ≡ old
IsWriteTold ended before now old new = WritesLine before now old new write_line
