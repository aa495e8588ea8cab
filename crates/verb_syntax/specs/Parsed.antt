-- The answer of `parse` as a function of the tokens, which it reads one after another. What the answer is by the grammar
-- is the law `ParsedByGrammar`; nothing else of this function need be believed.
use Rattle.std.specs.Prelude.{ℕ, List, [], ◌∷◌, Option, Some, None, Result, Ok, Err, false}
use Rattle.scalar_value.specs.declared.memory.Or.{Or}
use Rattle.scalar_value.specs.declared.memory.Or.TheVariants.{Fault, Memory}
use Rattle.token_scan.specs.declared.token.Token.{Token}
use Rattle.syntax_tree.specs.declared.tree.Script.{Script}
use Rattle.verb_syntax.specs.declared.fault.SyntaxFault.{SyntaxFault}
use Rattle.verb_syntax.specs.declared.fault.SyntaxKind.{SyntaxKind}
use Rattle.verb_syntax.specs.declared.reader.Reader.{Reader}
use Rattle.syntax_steps.specs.declared.state.State.{State}
use Rattle.syntax_steps.specs.Machine.{begin, finish}
use Rattle.verb_syntax.specs.Reader.{reads}
use Rattle.verb_syntax.specs.Parsing.{IsParsed}

-- before the first token
abbrev pub opening : Reader
opening = record { state = begin; depth = 0; goes_on = false; whole = false; count = 0 }

abbrev pub on_ok : {A B F : Type 0} → Result A F → (A → Result B F) → Result B F
on_ok (Ok x) f = f x
on_ok (Err e) f = Err e

-- behind the last token, in a script of so many bytes
abbrev pub whole_or_unfinished : ℕ → Option Script → Result Script SyntaxFault
whole_or_unfinished end None = Err (record { kind = SyntaxKind.Unfinished; at = end })
whole_or_unfinished end (Some script) = Ok script

-- behind what has been read, with these tokens to come
unfoldable pub parsed_from : ℕ → List Token → Reader → Result Script SyntaxFault
parsed_from end [] reader = whole_or_unfinished end (finish reader.state)
parsed_from end (token ∷ tokens) reader = on_ok (reads token reader) (λ next. parsed_from end tokens next)

-- the tree of these tokens, in a script of so many bytes, or their first fault
unfoldable pub parsed : List Token → ℕ → Result Script SyntaxFault
parsed tokens end = parsed_from end tokens opening

-- as the answer of a call that had memory
abbrev pub as_answer : {A F : Type 0} → Result A F → Result A (Or F)
as_answer (Ok x) = Ok x
as_answer (Err e) = Err (Fault e)

-- It is the tree that the tokens derive, or their first fault by the grammar.
abbrev pub ParsedByGrammar : Type 0
ParsedByGrammar = (tokens : List Token) (end : ℕ) → IsParsed (as_answer (parsed tokens end)) tokens end
