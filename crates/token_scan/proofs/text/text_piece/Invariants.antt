use Rattle.std.proofs.Common.{◌≡◌, ◌-◌, length, drop}
use Rattle.std.specs.Str.{IsCharBoundary}
use Rattle.token_scan.specs.Pieces.{text_piece}
use Rattle.token_scan.specs.Texts.{quoted}
use Rattle.token_scan.proofs.Quotes.{text_from}
use Rattle.token_scan.proofs.text.text_piece.Given as goal

abbrev pub invariant-loop-at : goal.invariant-loop-at
invariant-loop-at l =
    IsCharBoundary l.bytes l.at × (text_from l.text l.at (quoted l.quote (drop l.at l.bytes)) ≡ text_piece l.rest)

abbrev pub decreases-loop-at : goal.decreases-loop-at
decreases-loop-at l = length l.bytes - l.at
