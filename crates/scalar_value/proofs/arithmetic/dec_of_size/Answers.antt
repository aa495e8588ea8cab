use Rattle.std.proofs.Common.{ℕ, ◌≤◌, ◌<◌, ◌^◌, ◌-◌, Bool, true, false, arith, pos, FitsSigned, unsigned_abs, sym, ◌≡◌}
use Rattle.std.specs.Int.{w64}
use Rattle.std.proofs.lemmas.Int.{ints}
use Rattle.scalar_value.specs.declared.value.Value.TheVariants.{Missing}
use Rattle.scalar_value.specs.Numbers.{with_sign, as_dec}
use Rattle.scalar_value.proofs.Ranges.{as_dec-far}
use Rattle.scalar_value.proofs.arithmetic.dec_of_size.Goals as goal

unfit : (negative : Bool) (size : ℕ) → ¬ (FitsSigned w64 (pos size)) → 2 ^ 63 - 1 ≤ unsigned_abs (with_sign negative size)
unfit true size h = grind (arith, ints)
unfit false size h = grind (arith, ints)

pub returns-in-Err : goal.returns-in-Err
returns-in-Err c = sym (as_dec-far (with_sign c.args.negative c.args.size) (unfit c.args.negative c.args.size (λ p. c.in-Err.ensures p)))
