-- A script from its bytes: its tokens and its tree, and what it means over tables; or the first fault, with its place.
use Rattle.std.specs.Prelude.{ℕ, if◌then◌else◌, List, length, Result, Ok, Err}
use Rattle.std.specs.Str.{is_utf8}
use Rattle.token_scan.specs.declared.token.Token.{Token}
use Rattle.token_scan.specs.declared.token.ScanKind.{ScanKind}
use Rattle.token_scan.specs.declared.token.ScanKind.TheVariants as scan
use Rattle.token_scan.specs.Tokens.{tokens_of}
use Rattle.token_scan.specs.Places.{place_at}
use Rattle.syntax_tree.specs.declared.tree.Script.{Script}
use Rattle.verb_syntax.specs.declared.fault.SyntaxKind.{SyntaxKind}
use Rattle.verb_syntax.specs.declared.fault.SyntaxKind.TheVariants as syntax
use Rattle.verb_syntax.specs.Parsed.{parsed}
use Rattle.script_evaluation.specs.declared.fault.EvaluationKind.{EvaluationKind}
use Rattle.script_evaluation.specs.declared.fault.EvaluationKind.TheVariants as evaluation
use Rattle.script_evaluation.specs.Evaluation.{Named, Evaluated, evaluated}
use Rattle.script_session.specs.declared.script.ScriptFault.{ScriptFault}
use Rattle.script_session.specs.declared.script.ScriptKind.{ScriptKind}
use Rattle.script_session.specs.declared.script.ScriptKind.TheVariants as kind

abbrev pub scan_kind : ScanKind → ScriptKind
scan_kind scan.BadChar = kind.BadChar
scan_kind scan.OpenText = kind.OpenText
scan_kind scan.NumberRange = kind.NumberRange

abbrev pub syntax_kind : SyntaxKind → ScriptKind
syntax_kind syntax.Unexpected = kind.Unexpected
syntax_kind syntax.Unfinished = kind.Unfinished
syntax_kind syntax.TooDeep = kind.TooDeep

abbrev pub evaluation_kind : EvaluationKind → ScriptKind
evaluation_kind (evaluation.Verb k) = kind.Verb k
evaluation_kind evaluation.PlanTooLarge = kind.PlanTooLarge

-- a fault at the byte place of a script, told by line and column
abbrev pub fault_at : List ℕ → ScriptKind → ℕ → ScriptFault
fault_at bytes what at = record { kind = what; place = place_at bytes at }

-- a script that isn't UTF-8 is told at its start
abbrev pub not_text : ScriptFault
not_text = record { kind = kind.NotText; place = record { line = 1; column = 1 } }

-- the fault as a fault of the script
abbrev pub on_fault : {A F : Type 0} → (F → ScriptFault) → Result A F → Result A ScriptFault
on_fault tell (Ok x) = Ok x
on_fault tell (Err fault) = Err (tell fault)

unfoldable pub script_tokens : List ℕ → Result (List Token) ScriptFault
script_tokens bytes = on_fault (λ fault. fault_at bytes (scan_kind fault.kind) fault.at) (tokens_of bytes)

unfoldable pub script_tree : List ℕ → List Token → Result Script ScriptFault
script_tree bytes tokens = on_fault (λ fault. fault_at bytes (syntax_kind fault.kind) fault.at) (parsed tokens (length bytes))

infixl 10 ◌>>=◌
-- the second step over what the first gives, unless that is a fault
abbrev pub ◌>>=◌ : {A B : Type 0} → Result A ScriptFault → (A → Result B ScriptFault) → Result B ScriptFault
(Ok x) >>= f = f x
(Err fault) >>= f = Err fault

-- a script that is UTF-8
unfoldable pub read_text : List ℕ → Result Script ScriptFault
read_text text = script_tokens text >>= script_tree text

unfoldable pub read_script : List ℕ → Result Script ScriptFault
read_script bytes = if is_utf8 bytes then read_text bytes else Err not_text

-- what the script of these bytes means over tables
unfoldable pub script_meaning : List ℕ → Script → List Named → Result Evaluated ScriptFault
script_meaning bytes script tables = on_fault (λ fault. fault_at bytes (evaluation_kind fault.kind) fault.at) (evaluated script tables)
