-- The answer to a command line, from the words and from what the files hold: the plans that run and the bytes of the result, or
-- the first refusal with its status and its line.
use Rattle.std.specs.Prelude.{◌≡◌, ℕ, ◌^◌, nat_le, if◌then◌else◌, List, [], ◌∷◌, length, map, Option, Some, None, Result, Ok, Err}
use Rattle.outside_io.specs.Outside.{Held}
use Rattle.row_table.specs.Tables.{TableValue}
use Rattle.row_table.specs.SameTables.{shown}
use Rattle.csv_source.specs.declared.fault.TableFault.{TableFault}
use Rattle.csv_source.specs.Typed.{typed}
use Rattle.table_print.specs.CsvText.{csv_text}
use Rattle.table_print.specs.Aligned.{aligned_text}
use Rattle.syntax_tree.specs.declared.tree.Script.{Script}
use Rattle.plan_store.specs.declared.setting.Setting.{Setting}
use Rattle.command_words.specs.declared.words.Words.{Words}
use Rattle.command_words.specs.declared.words.BadWords.{BadWords}
use Rattle.command_words.specs.Settings.{settings_of}
use Rattle.plan_compile.specs.Trees.{plan_of}
use Rattle.script_evaluation.specs.Evaluation.{Named, Evaluated}
use Rattle.run_report.specs.declared.record.PlanRun.{PlanRun}
use Rattle.run_report.specs.PlanTexts.{plans_text}
use Rattle.run_report.specs.Reports.{report_text}
use Rattle.script_session.specs.declared.status.Status.TheVariants as status
use Rattle.script_session.specs.declared.status.Refusal.{Refusal}
use Rattle.script_session.specs.declared.script.ScriptFault.{ScriptFault}
use Rattle.script_session.specs.ReadScript.{read_script, script_meaning}
use Rattle.script_session.specs.RunRecord.{Planned}
use Rattle.script_session.specs.FaultLines.{usage_line, script_line, table_line, unread_line, long_line}

-- the greatest lengths of a script and of a table, in bytes
abbrev pub script_limit : ℕ
script_limit = 2 ^ 20

abbrev pub table_limit : ℕ
table_limit = 2 ^ 28

infixl 10 ◌>>=◌
-- the second step over what the first gives, unless it is refused
abbrev pub ◌>>=◌ : {A B : Type 0} → Result A Refusal → (A → Result B Refusal) → Result B Refusal
(Ok x) >>= f = f x
(Err e) >>= f = Err e

-- ---- refusals

abbrev pub bad_words : Refusal
bad_words = record { status = status.Usage; line = usage_line }

abbrev pub bad_script : List ℕ → ScriptFault → Refusal
bad_script path fault = record { status = status.Script; line = script_line path fault }

abbrev pub bad_table : List ℕ → TableFault → Refusal
bad_table name fault = record { status = status.Table; line = table_line name fault }

abbrev pub unread : List ℕ → Refusal
unread path = record { status = status.Read; line = unread_line path }

abbrev pub too_long : List ℕ → Refusal
too_long path = record { status = status.Read; line = long_line path }

-- a fault as a refusal
abbrev pub or_refused : {A F : Type 0} → (F → Refusal) → Result A F → Result A Refusal
or_refused tell (Ok x) = Ok x
or_refused tell (Err fault) = Err (tell fault)

abbrev pub or_bad_words : Result Words BadWords → Result Words Refusal
or_bad_words (Ok words) = Ok words
or_bad_words (Err bad) = Err bad_words

-- the bytes of a file, which is there and has at most so many
abbrev pub file_of : Option (List ℕ) → List ℕ → ℕ → Result (List ℕ) Refusal
file_of None path limit = Err (unread path)
file_of (Some bytes) path limit = if nat_le (length bytes) limit then Ok bytes else Err (too_long path)

-- ---- the script, then the tables in the order of the words, then the verbs over them: the first refusal is the answer

-- the script that the words name, with its bytes
unfoldable pub script_of : Words → Held → Result (List ℕ × Script) Refusal
script_of words held = do
  bytes ← file_of (held words.script) words.script script_limit
  script ← or_refused (bad_script words.script) (read_script bytes)
  Ok (bytes, script)

-- the typed table of a TABLE word, by the word's name
unfoldable pub table_of : List ℕ × List ℕ → Held → Result Named Refusal
table_of word held = do
  bytes ← file_of (held word.1) word.1 table_limit
  table ← or_refused (bad_table word.0) (typed bytes)
  Ok (word.0, table)

abbrev pub tables_of : List (List ℕ × List ℕ) → Held → Result (List Named) Refusal
tables_of [] held = Ok []
tables_of (word ∷ words) held = table_of word held >>= (λ table. tables_of words held >>= (λ tables. Ok (table ∷ tables)))

-- on one worker, whatever the words say
abbrev pub lone : Setting → Setting
lone setting = record setting { workers = 1 }

-- the plan of what a script means, with its one source
abbrev pub planned_at : Setting → Evaluated → Planned
planned_at setting e = record { nodes = plan_of e.tree; sources = e.source.rows ∷ []; setting = setting; table = e.table }

-- the plan of a script over tables
unfoldable pub plan_over : Words → List ℕ × Script → List Named → Result Planned Refusal
plan_over words script tables = do
  e ← or_refused (bad_script words.script) (script_meaning script.0 script.1 tables)
  Ok (planned_at (lone words.setting) e)

-- the plan of what accepted words name
unfoldable pub planned_of : Words → Held → Result Planned Refusal
planned_of words held = do
  script ← script_of words held
  tables ← tables_of words.tables held
  plan_over words script tables

-- the words, and the plan of what they name
unfoldable pub planned : List (List ℕ) → Held → Result Planned Refusal
planned words held = or_bad_words (settings_of words) >>= (λ named. planned_of named held)

-- the plans that run, of a refusal none
abbrev pub runs_of : Result Planned Refusal → List Planned
runs_of (Ok p) = p ∷ []
runs_of (Err refusal) = []

abbrev pub plans : List (List ℕ) → Held → List Planned
plans words held = runs_of (planned words held)

-- ---- what is printed

-- the shown table, as CSV or aligned
abbrev pub table_text : Words → TableValue → List ℕ
table_text words t = if words.csv then csv_text (shown t) else aligned_text (shown t)

-- the table that the plan means; with `--explain` the plan, and with `--report` the runs in its place
abbrev pub printed : Words → Planned → List PlanRun → List ℕ
printed words p runs = if words.explain then plans_text (p.nodes ∷ []) else (if words.report then report_text runs else table_text words p.table)

-- the same by a table and the runs that gave it
abbrev pub printed_of : Words → TableValue → List PlanRun → List ℕ
printed_of words t runs = if words.explain then plans_text (map (λ (run : PlanRun). run.plan.nodes) runs) else (if words.report then report_text runs else table_text words t)

-- the bytes of the result, where the record of the command is this one
unfoldable pub answer : List (List ℕ) → Held → List PlanRun → Result (List ℕ) Refusal
answer words held runs = do
  named ← or_bad_words (settings_of words)
  p ← planned_of named held
  Ok (printed named p runs)

-- ---- the files that the words name

abbrev pub paths_of : Result Words BadWords → List (List ℕ)
paths_of (Err bad) = []
paths_of (Ok words) = words.script ∷ map (λ (word : List ℕ × List ℕ). word.1) words.tables

abbrev pub named_paths : List (List ℕ) → List (List ℕ)
named_paths words = paths_of (settings_of words)

-- the paths among them that the answer comes to, before its first refusal
abbrev pub behind : {A : Type 0} → Result A Refusal → List (List ℕ) → List (List ℕ)
behind (Ok x) paths = paths
behind (Err refusal) paths = []

abbrev pub tables_reached : List (List ℕ × List ℕ) → Held → List (List ℕ)
tables_reached [] held = []
tables_reached (word ∷ words) held = word.1 ∷ behind (table_of word held) (tables_reached words held)

abbrev pub paths_reached_of : Result Words BadWords → Held → List (List ℕ)
paths_reached_of (Err bad) held = []
paths_reached_of (Ok words) held = words.script ∷ behind (script_of words held) (tables_reached words.tables held)

abbrev pub paths_reached : List (List ℕ) → Held → List (List ℕ)
paths_reached words held = paths_reached_of (settings_of words) held
