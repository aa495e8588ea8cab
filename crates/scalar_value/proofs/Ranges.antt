-- A result that fits its range is itself, and one that does not is missing.
use Rattle.std.proofs.Common.{sym, ap, ◌∙◌, Option, Some, None, SomeIff, ◌≡◌, ◌≤◌, ◌<◌, ◌^◌, ◌-◌, ℕ, ℤ, pos, negsuc, neg_ℤ, ◌≤ℤ◌, ◌<ℤ◌, Bool, true, false, cond, arith, refl, FitsSigned, unsigned_abs, int_le, int_lt, ◌&&◌, rules, if◌then◌else◌}
use Rattle.std.specs.Int.{w64}
use Rattle.std.specs.Option.{option_map_or}
use Rattle.std.proofs.lemmas.Int.{ints}
use Rattle.scalar_value.specs.declared.value.Value.{Value}
use Rattle.scalar_value.specs.declared.value.Value.TheVariants.{Missing, Int, Dec}
use Rattle.scalar_value.specs.Decimals.{IsDec, dec_limit}
use Rattle.scalar_value.specs.Numbers.{is_int, is_dec, as_int, as_dec}

chosen : {A : Type 0} (b : Bool) (x y : A) → b ≡ true → (if b then x else y) ≡ x
chosen true x y e = refl
chosen false x y e = cc

passed : {A : Type 0} (b : Bool) (x y : A) → b ≡ false → (if b then x else y) ≡ y
passed true x y e = cc
passed false x y e = refl

is_int-true : (z : ℤ) → FitsSigned w64 z → is_int z ≡ true
is_int-true z h = grind (arith, ints)

is_int-false : (z : ℤ) → ¬ (FitsSigned w64 z) → is_int z ≡ false
is_int-false z h = grind (arith, ints)

is_dec-true : (z : ℤ) → IsDec z → is_dec z ≡ true
is_dec-true z h = grind (arith, ints)

is_dec-false : (z : ℤ) → ¬ (IsDec z) → is_dec z ≡ false
is_dec-false z h = grind (arith, ints)

is_dec-far : (z : ℤ) → 2 ^ 63 - 1 ≤ unsigned_abs z → is_dec z ≡ false
is_dec-far z h = grind (arith, ints)

pub as_int-fits : (z : ℤ) → FitsSigned w64 z → as_int z ≡ Int z
unfolding as_int
as_int-fits z h = chosen (is_int z) _ _ (is_int-true z h)

pub as_int-missing : (z : ℤ) → ¬ (FitsSigned w64 z) → as_int z ≡ Missing
unfolding as_int
as_int-missing z h = passed (is_int z) _ _ (is_int-false z h)

pub as_dec-fits : (z : ℤ) → IsDec z → as_dec z ≡ Dec z
unfolding as_dec
as_dec-fits z h = chosen (is_dec z) _ _ (is_dec-true z h)

pub as_dec-missing : (z : ℤ) → ¬ (IsDec z) → as_dec z ≡ Missing
unfolding as_dec
as_dec-missing z h = passed (is_dec z) _ _ (is_dec-false z h)

pub as_dec-far : (z : ℤ) → 2 ^ 63 - 1 ≤ unsigned_abs z → as_dec z ≡ Missing
unfolding as_dec
as_dec-far z h = passed (is_dec z) _ _ (is_dec-far z h)

-- what the calls that test a range give
pub int_given : (r : Option ℤ) (z : ℤ) → SomeIff r (FitsSigned w64 z) z → option_map_or (λ x. Int x) r Missing ≡ as_int z
int_given None z h = sym (as_int-missing z h)
int_given (Some x) z h = ap (λ y. Int y) (h.1) ∙ sym (as_int-fits z h.0)

pub dec_given : (r : Option ℤ) (z : ℤ) → SomeIff r (IsDec z) z → option_map_or (λ x. Dec x) r Missing ≡ as_dec z
dec_given None z h = sym (as_dec-missing z h)
dec_given (Some x) z h = ap (λ y. Dec y) (h.1) ∙ sym (as_dec-fits z h.0)

pub dec_unfit : (z : ℤ) → ¬ (FitsSigned w64 z) → Missing ≡ as_dec z
dec_unfit z h = sym (as_dec-far z (far z h)) where
  far : (z : ℤ) → ¬ (FitsSigned w64 z) → 2 ^ 63 - 1 ≤ unsigned_abs z
  far z h = grind (arith, ints)
