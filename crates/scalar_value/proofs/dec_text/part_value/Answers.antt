use Rattle.std.proofs.Common.{sym, ◌∙◌, ◌≡◌, Option, Some, None, ℕ}
use Rattle.scalar_value.specs.Decimals.{value_of}
use Rattle.scalar_value.proofs.Digits.{part_some, part_read}
use Rattle.scalar_value.proofs.dec_text.part_value.Goals as goal

pub returns-in-Some-clause-small : goal.returns-in-Some-clause-small
returns-in-Some-clause-small c =
    part_some c.args.part.now c.in-Some.number c.pow.result (sym c.if-not-is_digits.ensures) c.if-places-gt6.false c.in-Some.ensures c.pow.ensures

pub returns-in-None-clause-value : goal.returns-in-None-clause-value
returns-in-None-clause-value c =
    let read : None ≡ Some (value_of c.args.part.now) = c.in-None.ensures ∙ part_read c.args.part.now (sym c.if-not-is_digits.ensures) c.if-places-gt6.false in
    cc
