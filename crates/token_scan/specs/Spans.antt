-- Where the tokens of a script stand.
use Rattle.std.specs.Prelude.{ℕ, ◌<◌, ◌≤◌, List, [], ◌∷◌, All, Result, Ok, Err}
use Rattle.std.specs.Str.{IsCharBoundary}
use Rattle.scalar_value.specs.declared.memory.Or.{Or}
use Rattle.scalar_value.specs.declared.memory.Or.TheVariants.{Fault, Memory}
use Rattle.token_scan.specs.declared.token.ScanFault.{ScanFault}
use Rattle.token_scan.specs.declared.token.Token.{Token}

-- The tokens stand one behind the other, each on at least one byte, between these two places.
abbrev pub AreInOrder : ℕ → List Token → ℕ → Type 0
AreInOrder low [] high = low ≤ high
AreInOrder low (token ∷ tokens) high = (low ≤ token.from) × (token.from < token.to) × AreInOrder token.to tokens high

-- Each token, and each fault, stands at the start of a character.
abbrev pub StandsAtCharacters : List ℕ → Result (List Token) (Or ScanFault) → Type 0
StandsAtCharacters script (Ok tokens) = All (λ token. IsCharBoundary script token.from) tokens
StandsAtCharacters script (Err (Fault fault)) = IsCharBoundary script fault.at
StandsAtCharacters script (Err Memory) = Unit {0}
