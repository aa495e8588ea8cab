-- How `parse` reads one token, line feeds and limits included: what its private functions give.
use Rattle.std.specs.Prelude.{Option, Some, None, Result, Ok, Err, cond, ◌||◌, nat_lt}
use Rattle.token_scan.specs.declared.token.Token.{Token}
use Rattle.verb_syntax.specs.declared.fault.SyntaxFault.{SyntaxFault}
use Rattle.verb_syntax.specs.declared.fault.SyntaxKind.{SyntaxKind}
use Rattle.syntax_steps.specs.declared.state.State.{State}
use Rattle.verb_syntax.specs.declared.reader.Reader.{Reader}
use Rattle.syntax_steps.specs.Levels.{levels}
use Rattle.verb_syntax.specs.Lines.{deeper, goes_on, is_passed}
use Rattle.verb_syntax.specs.Operators.{ends_operand, count_at}
use Rattle.syntax_steps.specs.Machine.{step}

-- behind a token in this state
abbrev pub reader_at : Token → Reader → State → Reader
reader_at token reader state = record {
  state = state;
  depth = deeper token.kind reader.depth;
  goes_on = goes_on token.kind;
  whole = ends_operand token.kind;
  count = count_at token.kind reader.depth reader.whole reader.count;
}

-- within the limits
abbrev pub limited : Token → Reader → Result Reader SyntaxFault
limited token next =
    cond (nat_lt 128 (levels next.state.frames) || nat_lt 1024 next.count)
    (Err (record { kind = SyntaxKind.TooDeep; at = token.from })) (Ok next)

abbrev pub moved : Token → Reader → Option State → Result Reader SyntaxFault
moved token reader None = Err (record { kind = SyntaxKind.Unexpected; at = token.from })
moved token reader (Some state) = limited token (reader_at token reader state)

-- behind one more token, or its fault
abbrev pub reads : Token → Reader → Result Reader SyntaxFault
reads token reader =
    cond (is_passed token.kind reader.depth reader.goes_on) (Ok reader) (moved token reader (step token reader.state))
