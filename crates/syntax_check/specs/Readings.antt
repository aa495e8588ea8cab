-- What a text is: a script of so many tokens, or no script, by its first fault.
use Rattle.std.specs.Prelude.{◌≡◌, ℕ, List, length, Result, Ok, Err}
use Rattle.scalar_value.specs.declared.memory.Or.TheVariants.{Fault}
use Rattle.token_scan.specs.declared.token.Token.{Token}
use Rattle.token_scan.specs.Tokens.{tokens_of}
use Rattle.syntax_tree.specs.declared.tree.Script.{Script}
use Rattle.verb_syntax.specs.Parsing.{IsParsed}
use Rattle.syntax_check.specs.declared.Reading.{Reading}
use Rattle.syntax_check.specs.declared.Reading.TheVariants as reading

-- its tokens, of which there are so many
pub record HasTokens (text : List ℕ) (count : ℕ) (tokens : List Token) : Type 0 where
  pub are : tokens_of text ≡ Ok tokens
  pub count_is : length tokens ≡ count

abbrev pub IsReading : List ℕ → Reading → Type 0
IsReading text (reading.Script count) = (tokens : List Token) × HasTokens text count tokens × ((script : Script) × IsParsed (Ok script) tokens (length text))
IsReading text (reading.NoToken fault) = tokens_of text ≡ Err fault
IsReading text (reading.NoScript count fault) = (tokens : List Token) × HasTokens text count tokens × IsParsed (Err (Fault fault)) tokens (length text)
IsReading text reading.Memory = Unit {0}
