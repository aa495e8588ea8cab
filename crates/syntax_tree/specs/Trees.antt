-- The parts of a syntax tree, made of their fields.
use Rattle.std.specs.Prelude.{ℕ, List, Option}
use Rattle.token_scan.specs.declared.token.Oper.{Oper}
use Rattle.syntax_tree.specs.declared.tree.Term.{Term, roll-Term}
use Rattle.syntax_tree.specs.declared.tree.Call.{Call, roll-Call}
use Rattle.syntax_tree.specs.declared.tree.Arg.{Arg, roll-Arg}
use Rattle.syntax_tree.specs.declared.tree.Pipe.{Pipe, roll-Pipe}
use Rattle.syntax_tree.specs.declared.tree.TermKind.{TermKind}
use Rattle.syntax_tree.specs.declared.tree.TermKind.TheVariants as kind

-- an expression that stands at this place
abbrev pub term_of : ℕ → TermKind → Term
term_of at what = roll-Term (record { at = at; kind = what })

abbrev pub name_term : ℕ → List ℕ → Term
name_term at name = term_of at (kind.Name name)

abbrev pub text_term : ℕ → List ℕ → Term
text_term at text = term_of at (kind.Str text)

abbrev pub binary_term : ℕ → Oper → Term → Term → Term
binary_term at op left right = term_of at (kind.Binary op left right)

abbrev pub unary_term : ℕ → Oper → Term → Term
unary_term at op operand = term_of at (kind.Unary op operand)

abbrev pub call_term : ℕ → Call → Term
call_term at call = term_of at (kind.Call call)

abbrev pub pipe_term : ℕ → Pipe → Term
pipe_term at pipe = term_of at (kind.Pipe pipe)

abbrev pub call_of : List ℕ → ℕ → List Arg → Call
call_of name at args = roll-Call (record { name = name; at = at; args = args })

abbrev pub arg_of : Option (List ℕ) → ℕ → Term → Arg
arg_of name at value = roll-Arg (record { name = name; at = at; value = value })

abbrev pub pipe_of : List ℕ → ℕ → List Call → Pipe
pipe_of table at calls = roll-Pipe (record { table = table; at = at; calls = calls })
