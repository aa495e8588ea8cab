-- The law above what is read: a script by its tokens and the grammar.
use Rattle.std.specs.Prelude.{◌≡◌, ℕ, List, length, Result, Ok, Err}
use Rattle.std.specs.Str.{IsUtf8}
use Rattle.token_scan.specs.declared.token.Token.{Token}
use Rattle.token_scan.specs.declared.token.Place.{Place}
use Rattle.token_scan.specs.declared.token.ScanKind.{ScanKind}
use Rattle.token_scan.specs.declared.token.ScanKind.TheVariants as scan
use Rattle.token_scan.specs.Tokens.{tokens_of, fault_at as scan_fault_at}
use Rattle.token_scan.specs.Places.{place_at}
use Rattle.syntax_tree.specs.declared.tree.Script.{Script}
use Rattle.verb_syntax.specs.declared.fault.SyntaxKind.{SyntaxKind}
use Rattle.verb_syntax.specs.declared.fault.SyntaxKind.TheVariants as syntax
use Rattle.verb_syntax.specs.Lines.{DerivesScript}
use Rattle.verb_syntax.specs.Parsing.{AllShallow, IsFirstFault}
use Rattle.script_session.specs.declared.script.ScriptFault.{ScriptFault}
use Rattle.script_session.specs.declared.script.ScriptKind.{ScriptKind}
use Rattle.script_session.specs.declared.script.ScriptKind.TheVariants as fault
use Rattle.script_session.specs.ReadScript.{read_script}

-- the tokens of the script derive this tree
abbrev pub HasTree : List ℕ → Script → Type 0
HasTree bytes tree = (tokens : List Token) × (tokens_of bytes ≡ Ok tokens) × DerivesScript tokens tree × AllShallow tokens

-- this fault is the first among the script's bytes as tokens
abbrev pub HasBadToken : List ℕ → ScanKind → Place → Type 0
HasBadToken bytes what place = (at : ℕ) × (tokens_of bytes ≡ Err (scan_fault_at what at)) × (place ≡ place_at bytes at)

-- this fault is the first among the script's tokens by the grammar
abbrev pub HasBadSyntax : List ℕ → SyntaxKind → Place → Type 0
HasBadSyntax bytes what place =
    (tokens : List Token) × (at : ℕ) × (tokens_of bytes ≡ Ok tokens) × IsFirstFault what tokens at (length bytes) × (place ≡ place_at bytes at)

abbrev pub IsAtStart : Place → Type 0
IsAtStart place = (place.line ≡ 1) × (place.column ≡ 1)

-- what a fault says of a script
abbrev pub IsFaultOf : List ℕ → ScriptKind → Place → Type 0
IsFaultOf bytes fault.NotText place = (IsUtf8 bytes → ⊥) × IsAtStart place
IsFaultOf bytes fault.BadChar place = IsUtf8 bytes × HasBadToken bytes scan.BadChar place
IsFaultOf bytes fault.OpenText place = IsUtf8 bytes × HasBadToken bytes scan.OpenText place
IsFaultOf bytes fault.NumberRange place = IsUtf8 bytes × HasBadToken bytes scan.NumberRange place
IsFaultOf bytes fault.Unexpected place = IsUtf8 bytes × HasBadSyntax bytes syntax.Unexpected place
IsFaultOf bytes fault.Unfinished place = IsUtf8 bytes × HasBadSyntax bytes syntax.Unfinished place
IsFaultOf bytes fault.TooDeep place = IsUtf8 bytes × HasBadSyntax bytes syntax.TooDeep place
-- the reading of a script has no other fault
IsFaultOf bytes (fault.Verb k) place = ⊥
IsFaultOf bytes fault.PlanTooLarge place = ⊥

-- A script is read as its one tree, or it has the fault that is told.
abbrev pub IsReadAs : List ℕ → Result Script ScriptFault → Type 0
IsReadAs bytes (Ok script) = IsUtf8 bytes × HasTree bytes script
IsReadAs bytes (Err found) = IsFaultOf bytes found.kind found.place

abbrev pub ScriptsAreRead : Type 0
ScriptsAreRead = (bytes : List ℕ) → IsReadAs bytes (read_script bytes)
