use Rattle.std.proofs.Common.{◌≡◌, take, drop}
use Rattle.verb_syntax.specs.Parsed.{parsed, parsed_from}
use Rattle.verb_syntax.proofs.Parses.{IsAt}
use Rattle.verb_syntax.proofs.reader.read_all.Given as goal

abbrev pub invariant-loop-token : goal.invariant-loop-token
invariant-loop-token l =
    IsAt (take l.token-index l.tokens) l.reader
    × (parsed l.tokens l.end ≡ parsed_from l.end (drop l.token-index l.tokens) l.reader)
