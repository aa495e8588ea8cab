use Rattle.std.proofs.Common.{arith, sym, ◌∙◌}
use Rattle.csv_source.proofs.Digits.{too-great}
use Rattle.csv_source.proofs.value.number_below.Goals as goal

pub returns-then-number-from-clause-value : goal.returns-then-number-from-clause-value
returns-then-number-from-clause-value c =
    let digit = sym c.is_ascii_digit.ensures.value ∙ c.if-not-is_ascii_digit.false in
    let limit_is = c.from-in-loop-digit.ensures in
    let past = c.if-number-from.true in
    too-great c.args.limit c.loop-digit.number c.from.result c.loop-digit.digit-index c.args.digits.now
    (omega arith) digit c.from.ensures c.loop-digit.invariant.value (omega (arith, limit_is, past))
