use Rattle.std.proofs.Common.{sym, Option, ℤ, ℕ, pos, neg_ℤ, ◌+ℤ◌, ◌-ℤ◌, Bool, true, false, arith, ap, ◌∙◌, ◌≡◌, SomeIff, FitsSigned}
use Rattle.std.specs.Int.{w64}
use Rattle.std.specs.Option.{option_map_or}
use Rattle.std.proofs.lemmas.Int.{ints}
use Rattle.scalar_value.specs.declared.value.Value.TheVariants.{Missing, Int}
use Rattle.scalar_value.specs.Numbers.{with_sign, as_int}
use Rattle.scalar_value.proofs.Ranges.{int_given}
use Rattle.scalar_value.proofs.arithmetic.int_of_size.Goals as goal

below : (n : ℕ) → pos 0 -ℤ pos n ≡ neg_ℤ (pos n)
below n = omega (arith, ints)

above : (n : ℕ) → pos 0 +ℤ pos n ≡ pos n
above n = omega (arith, ints)

given : (flag taken : Bool) (n : ℕ) (r : Option ℤ) (z : ℤ) → flag ≡ taken → SomeIff r (FitsSigned w64 z) z → z ≡ with_sign taken n → option_map_or (λ x. Int x) r Missing ≡ as_int (with_sign flag n)
given flag taken n r z b h e = int_given r z h ∙ ap as_int (e ∙ ap (λ (s : Bool). with_sign s n) (sym b))

pub returns-then-negative : goal.returns-then-negative
returns-then-negative c =
    c.int_or_missing.ensures ∙ given c.args.negative true c.args.size c.checked_sub_unsigned.result (pos 0 -ℤ pos c.args.size) c.if-negative.true c.checked_sub_unsigned.ensures (below c.args.size)

pub returns-else-negative : goal.returns-else-negative
returns-else-negative c =
    c.int_or_missing-else-negative.ensures ∙ given c.args.negative false c.args.size c.checked_add_unsigned.result (pos 0 +ℤ pos c.args.size) c.if-negative.false c.checked_add_unsigned.ensures (above c.args.size)
