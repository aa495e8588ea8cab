-- The laws that say what the unfinished rules of a front are: there is one list of them at most, and there is one wherever
-- an expression may begin, as behind each token that opens a level.
use Rattle.std.specs.Prelude.{◌≡◌, ℤ, List, [], ◌∷◌, ◌++◌}
use Rattle.token_scan.specs.declared.token.Token.{Token}
use Rattle.token_scan.specs.declared.token.TokenKind.{TokenKind}
use Rattle.syntax_steps.specs.declared.frame.Frame.{Frame}
use Rattle.verb_syntax.specs.Lines.{read}
use Rattle.verb_syntax.specs.Unfinished.{Opens}
use Rattle.verb_syntax.specs.Parsing.{Begins}

-- what the tokens leave unfinished is one list of rules
abbrev pub OpenOne : Type 0
OpenOne = (tokens : List Token) (a b : List Frame) → Opens tokens a [] → Opens tokens b [] → a ≡ b

-- where a number may be the next token, the tokens before it have unfinished rules
abbrev pub OpensAll : Type 0
OpensAll =
    (front : List Token) (token : Token) (number : ℤ) → token.kind ≡ TokenKind.Whole number → Begins (front ++ token ∷ [])
    → (frames : List Frame) × Opens (read front) frames []
