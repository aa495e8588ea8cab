use Rattle.std.proofs.Common.{◌≡◌, ◌-◌, length, drop}
use Rattle.std.specs.Prelude.{All}
use Rattle.std.specs.Str.{IsCharBoundary}
use Rattle.token_scan.specs.Spans.{AreInOrder}
use Rattle.token_scan.specs.Tokens.{before, tokens_from, tokens_of}
use Rattle.token_scan.proofs.scanner.scan.Given as goal

abbrev pub invariant-loop-at : goal.invariant-loop-at
invariant-loop-at l =
    IsCharBoundary l.script l.at × AreInOrder 0 l.tokens l.at × All (λ token. IsCharBoundary l.script token.from) l.tokens × (before l.tokens (tokens_from l.at 0 (drop l.at l.script)) ≡ tokens_of l.script)

abbrev pub decreases-loop-at : goal.decreases-loop-at
decreases-loop-at l = length l.script - l.at
