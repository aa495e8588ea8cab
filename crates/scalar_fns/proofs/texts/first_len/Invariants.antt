use Rattle.std.proofs.Common.{◌≡◌, ◌+◌, drop, length}
use Rattle.scalar_fns.specs.Texts.{first_chars}
use Rattle.scalar_fns.proofs.texts.first_len.Given as goal

abbrev pub invariant-loop-at : goal.invariant-loop-at
invariant-loop-at l = length (first_chars l.n l.s) ≡ l.at + length (first_chars l.left (drop l.at l.s))
