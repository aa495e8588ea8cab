-- What `parse` gives: the tree that the tokens derive, or the first fault.
use Rattle.std.specs.Prelude.{◌≡◌, ℕ, ◌<◌, List, [], ◌∷◌, ◌++◌, Result, Ok, Err, ◌⊎◌}
use Rattle.scalar_value.specs.declared.memory.Or.{Or}
use Rattle.scalar_value.specs.declared.memory.Or.TheVariants.{Fault, Memory}
use Rattle.token_scan.specs.declared.token.Token.{Token}
use Rattle.syntax_tree.specs.declared.tree.Script.{Script}
use Rattle.verb_syntax.specs.declared.fault.SyntaxFault.{SyntaxFault}
use Rattle.verb_syntax.specs.declared.fault.SyntaxKind.{SyntaxKind}
use Rattle.syntax_steps.specs.declared.frame.Frame.{Frame}
use Rattle.verb_syntax.specs.Lines.{read, DerivesScript}
use Rattle.syntax_steps.specs.Levels.{levels}
use Rattle.verb_syntax.specs.Unfinished.{Opens}
use Rattle.verb_syntax.specs.Operators.{operators}

-- The tokens begin a script: there are tokens that complete it.
abbrev pub Begins : List Token → Type 0
Begins tokens = (rest : List Token) × (script : Script) × DerivesScript (tokens ++ rest) script

-- Behind the tokens more than 128 levels are open, or more than 1,024 binary operators stand in an argument.
abbrev pub IsDeep : List Token → Type 0
IsDeep tokens =
    ((frames : List Frame) × Opens (read tokens) frames [] × (128 < levels frames)) ⊎ (1024 < operators (read tokens))

-- no front of the tokens is too deep
abbrev pub AllShallow : List Token → Type 0
AllShallow tokens = (front rest : List Token) → tokens ≡ front ++ rest → IsDeep front → ⊥

-- the first fault is a token with which no script goes on
abbrev pub IsUnexpected : List Token → ℕ → Type 0
IsUnexpected tokens at =
    (front : List Token) × (token : Token) × (rest : List Token) × (tokens ≡ front ++ token ∷ rest) × Begins front
    × AllShallow front × (Begins (front ++ token ∷ []) → ⊥) × (at ≡ token.from)

-- the first fault is a token with which a script goes on, but with a level or an operator too many
abbrev pub IsTooDeep : List Token → ℕ → Type 0
IsTooDeep tokens at =
    (front : List Token) × (token : Token) × (rest : List Token) × (tokens ≡ front ++ token ∷ rest) × AllShallow front
    × Begins (front ++ token ∷ []) × IsDeep (front ++ token ∷ []) × (at ≡ token.from)

-- the tokens begin a script and are none
abbrev pub IsUnfinished : List Token → Type 0
IsUnfinished tokens = Begins tokens × AllShallow tokens × ((script : Script) → DerivesScript tokens script → ⊥)

abbrev pub IsFirstFault : SyntaxKind → List Token → ℕ → ℕ → Type 0
IsFirstFault SyntaxKind.Unexpected tokens at end = IsUnexpected tokens at
IsFirstFault SyntaxKind.Unfinished tokens at end = IsUnfinished tokens × (at ≡ end)
IsFirstFault SyntaxKind.TooDeep tokens at end = IsTooDeep tokens at

-- the tree that the tokens derive, or the first fault; want of memory is the one free answer
abbrev pub IsParsed : Result Script (Or SyntaxFault) → List Token → ℕ → Type 0
IsParsed (Ok script) tokens end = DerivesScript tokens script × AllShallow tokens
IsParsed (Err (Fault fault)) tokens end = IsFirstFault fault.kind tokens fault.at end
IsParsed (Err Memory) tokens end = Unit {0}

-- a token list derives one tree at most
abbrev pub DeriveOne : Type 0
DeriveOne = (tokens : List Token) (a b : Script) → DerivesScript tokens a → DerivesScript tokens b → a ≡ b
