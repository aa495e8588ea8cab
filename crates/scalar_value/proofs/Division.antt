-- What a quotient that is rounded down leaves has the divisor's sign and is smaller than it.
use Rattle.std.proofs.Common.{lit<, nat_lt, of_z, ℕ, ◌+◌, ◌-◌, ◌*◌, ◌/◌, ◌%◌, ◌<◌, ◌≤◌, min, suc, zero, ℤ, pos, negsuc, neg_ℤ, ◌+ℤ◌, ◌-ℤ◌, ◌*ℤ◌, Bool, true, false, not, unsigned_abs, int_lt, arith, ◌≡◌, ◌≢◌, refl, sym, ◌∙◌, ap, ap₂}
use lib.IntN.{*ℤ_comm}
use Rattle.std.specs.Bool.{beq}
use Rattle.std.specs.Int.{div_ceil, Width}
use Rattle.std.proofs.lemmas.Int.{ints}
use Rattle.std.proofs.Math.Nat.{mul-mod_left, div-eq_of_eq-mul_left, mod-eq_of_lt, mod_self, div-add-mod, mod-lt}
use Rattle.scalar_value.specs.declared.value.Value.{Value}
use Rattle.scalar_value.specs.Numbers.{with_sign, below_zero, signs_differ, floor_size, rest_size, half, half_size, floor_div, floor_rest, unless_zero}

pub is_below : (z : ℤ) → int_lt z (pos 0) ≡ below_zero z
is_below (pos n) = grind arith
is_below (negsuc n) = refl

pub are_apart : (a b : ℤ) → not (beq (int_lt a (pos 0)) (int_lt b (pos 0))) ≡ signs_differ a b
are_apart a b = ap₂ (λ (x y : Bool). not (beq x y)) (is_below a) (is_below b)

pub unless_not_zero : (b : ℤ) (v : Value) → b ≢ pos 0 → unless_zero b v ≡ v
unless_not_zero (pos zero) v h = absurd (h refl)
unless_not_zero (pos (suc n)) v h = refl
unless_not_zero (negsuc n) v h = refl

pub not_zero : (b : ℕ) → pos b ≢ pos 0 → 0 < b
not_zero zero h = absurd (h refl)
not_zero (suc b) h = omega arith

-- what the code's test for 0 says
pub bits_not_zero : (w : Width) (b : ℤ) → (of_z w b ≡ 0 → ⊥) → b ≢ pos 0
bits_not_zero w b h e = h (ap (of_z w) e)

-- the size rounded up, and what is then too much
up_rest_of : (a b q r : ℕ) → r < b → b * q + r ≡ a → a + (b - r) % b ≡ b * (q + min 1 r)
up_rest_of a b q zero l e =
    let none : b - zero ≡ b = omega arith in
    let h : (b - zero) % b ≡ 0 = ap (λ (n : ℕ). n % b) none ∙ mod_self b in omega (arith, h)
up_rest_of a b q (suc r) l e =
    let h : (b - suc r) % b ≡ b - suc r = mod-eq_of_lt (omega arith) in
    let one : min 1 (suc r) ≡ 1 = omega arith in rw one (omega (arith, h))

up_rest : (a b : ℕ) → 0 < b → a + rest_size true a b ≡ b * floor_size true a b
up_rest a b h = up_rest_of a b (a / b) (a % b) (mod-lt a h) (div-add-mod a b)

down_rest : (a b : ℕ) → b * floor_size false a b + rest_size false a b ≡ a
down_rest a b = div-add-mod a b

-- the four signs
rest_up_up : (a b q r : ℕ) → b * q + r ≡ a → pos a -ℤ pos b *ℤ pos q ≡ pos r
rest_up_up a b q r e = omega (arith, ints)

rest_up_down : (a b q r : ℕ) → a + r ≡ suc b * q → pos a -ℤ negsuc b *ℤ neg_ℤ (pos q) ≡ neg_ℤ (pos r)
rest_up_down a b zero r e = omega (arith, ints)
rest_up_down a b (suc q) r e = omega (arith, ints)

rest_down_up : (a b q r : ℕ) → suc a + r ≡ b * q → negsuc a -ℤ pos b *ℤ neg_ℤ (pos q) ≡ pos r
rest_down_up a b zero r e = omega (arith, ints)
rest_down_up a b (suc q) r e = omega (arith, ints)

rest_down_down : (a b q r : ℕ) → suc b * q + r ≡ suc a → negsuc a -ℤ negsuc b *ℤ pos q ≡ neg_ℤ (pos r)
rest_down_down a b q r e = omega (arith, ints)

pub rest_is : (a b : ℤ) → b ≢ pos 0 → floor_rest a b ≡ with_sign (below_zero b) (rest_size (signs_differ a b) (unsigned_abs a) (unsigned_abs b))
unfolding floor_div
rest_is (pos a) (pos b) h = rest_up_up a b _ _ (down_rest a b)
rest_is (pos a) (negsuc b) h = rest_up_down a b _ _ (up_rest a (suc b) (omega arith))
rest_is (negsuc a) (pos b) h = rest_down_up a b _ _ (up_rest (suc a) b (omega (arith, not_zero b h)))
rest_is (negsuc a) (negsuc b) h = rest_down_down a b _ _ (down_rest (suc a) (suc b))

-- the results by sign and size
pub half_by_size : (a b : ℤ) (s : Bool) (n x y : ℕ) → s ≡ signs_differ a b → n ≡ half_size x y → x ≡ unsigned_abs a → y ≡ unsigned_abs b → with_sign s n ≡ half a b
unfolding half
half_by_size a b s n x y p q f g = ap₂ with_sign p (q ∙ ap₂ half_size f g)

pub floor_by_size : (a b : ℤ) (s : Bool) (n x y : ℕ) → s ≡ signs_differ a b → n ≡ floor_size s x y → x ≡ unsigned_abs a → y ≡ unsigned_abs b → with_sign s n ≡ floor_div a b
unfolding floor_div
floor_by_size a b s n x y p q f g = ap₂ with_sign p (q ∙ ap₂ (floor_size s) f g ∙ ap (λ (t : Bool). floor_size t (unsigned_abs a) (unsigned_abs b)) p)

pub rest_by_size : (a b : ℤ) (s t : Bool) (n x y : ℕ) → b ≢ pos 0 → t ≡ int_lt b (pos 0) → s ≡ signs_differ a b → n ≡ rest_size s x y → x ≡ unsigned_abs a → y ≡ unsigned_abs b → with_sign t n ≡ floor_rest a b
rest_by_size a b s t n x y h u p q f g =
    ap₂ with_sign (u ∙ is_below b) (q ∙ ap₂ (rest_size s) f g ∙ ap (λ (v : Bool). rest_size v (unsigned_abs a) (unsigned_abs b)) p) ∙ sym (rest_is a b h)

pub product_with_sign : (s : Bool) (n : ℕ) → with_sign s (n * 1000000) ≡ with_sign s n *ℤ pos 1000000
product_with_sign true n = omega (arith, ints)
product_with_sign false n = omega (arith, ints)

-- a whole multiple of the divisor is divided exactly
half_size_whole : (n k : ℕ) → 0 < k → half_size (n * k) k ≡ n
half_size_whole n k h =
    let rest : (n * k) % k ≡ 0 = mul-mod_left n k in
    let quotient : n * k / k ≡ n = div-eq_of_eq-mul_left h refl in
    let below : nat_lt (2 * ((n * k) % k)) k ≡ true = rw rest (grind arith) in
    rw below quotient

half_negative : (p : ℕ) → half (neg_ℤ (pos p)) (pos 1000000) ≡ neg_ℤ (pos (half_size p 1000000))
unfolding half
half_negative zero = refl
half_negative (suc p) = refl

pub half_whole : (z : ℤ) → half (z *ℤ pos 1000000) (pos 1000000) ≡ z
unfolding half
half_whole (pos n) = ap pos (half_size_whole n 1000000 (lit< tt))
half_whole (negsuc n) = half_negative (suc n * 1000000) ∙ ap (λ (m : ℕ). neg_ℤ (pos m)) (half_size_whole (suc n) 1000000 (lit< tt))

pub neg_times_pos : (p q : ℕ) → neg_ℤ (pos p) *ℤ pos q ≡ neg_ℤ (pos (p * q))
neg_times_pos zero q = omega (arith, ints)
neg_times_pos (suc p) q = refl

pub neg_times_neg : (p q : ℕ) → neg_ℤ (pos p) *ℤ negsuc q ≡ pos (p * suc q)
neg_times_neg zero q = omega (arith, ints)
neg_times_neg (suc p) q = refl

pub scaled_left : (x y : ℤ) → (x *ℤ pos 1000000) *ℤ y ≡ (x *ℤ y) *ℤ pos 1000000
scaled_left (pos a) (pos b) =
    let e : a * 1000000 * b ≡ a * b * 1000000 = omega arith in ap pos e
scaled_left (pos a) (negsuc b) =
    let e : a * 1000000 * suc b ≡ a * suc b * 1000000 = omega arith in
    ap (λ (m : ℕ). neg_ℤ (pos m)) e ∙ sym (neg_times_pos (a * suc b) 1000000)
scaled_left (negsuc a) (pos b) =
    let e : suc a * 1000000 * b ≡ suc a * b * 1000000 = omega arith in
    neg_times_pos (suc a * 1000000) b ∙ ap (λ (m : ℕ). neg_ℤ (pos m)) e ∙ sym (neg_times_pos (suc a * b) 1000000)
scaled_left (negsuc a) (negsuc b) =
    let e : suc a * 1000000 * suc b ≡ suc a * suc b * 1000000 = omega arith in
    neg_times_neg (suc a * 1000000) b ∙ ap pos e

pub scaled_right : (x y : ℤ) → x *ℤ (y *ℤ pos 1000000) ≡ (x *ℤ y) *ℤ pos 1000000
scaled_right x y = *ℤ_comm x (y *ℤ pos 1000000) ∙ scaled_left y x ∙ ap (λ (z : ℤ). z *ℤ pos 1000000) (*ℤ_comm y x)

pub half_left : (x y : ℤ) → half ((x *ℤ pos 1000000) *ℤ y) (pos 1000000) ≡ x *ℤ y
half_left x y = ap (λ (z : ℤ). half z (pos 1000000)) (scaled_left x y) ∙ half_whole (x *ℤ y)

pub half_right : (x y : ℤ) → half (x *ℤ (y *ℤ pos 1000000)) (pos 1000000) ≡ x *ℤ y
half_right x y = ap (λ (z : ℤ). half z (pos 1000000)) (scaled_right x y) ∙ half_whole (x *ℤ y)
