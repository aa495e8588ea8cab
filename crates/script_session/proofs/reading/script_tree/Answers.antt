use Rattle.std.proofs.Common.{length}
use Rattle.std.specs.Str.{IsCharBoundary}
use Rattle.std.proofs.lemmas.Str.{IsCharBoundary-end}
use Rattle.script_session.proofs.ReadScripts.{fault_stands}
use Rattle.script_session.proofs.reading.script_tree.Goals as goal

pub place_of-requires-clause-boundary : goal.place_of-requires-clause-boundary
place_of-requires-clause-boundary c =
    let fault = c.in-Err-Fault.grammar_fault in
    fault_stands (λ at. IsCharBoundary c.args.script.now at) fault.kind c.args.tokens.now fault.at (length c.args.script.now)
    (rw c.in-Err-Fault.field-0-is at c.in-Err-Fault.ensures.parsed) c.requires.places (IsCharBoundary-end c.args.script.now)
