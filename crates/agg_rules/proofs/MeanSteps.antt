-- A mean by the size of the sum: the quotient of the sizes is scaled, and then the rest is divided.
use Rattle.std.proofs.Common.{ℕ, zero, suc, ◌+◌, ◌*◌, ◌/◌, ◌%◌, ◌<◌, ◌≤◌, ◌^◌, nat_lt, Bool, true, false, if◌then◌else◌, ◌≡◌, refl, sym, ap, ap₂, ◌∙◌, not, ℤ, pos, negsuc, neg_ℤ, ◌*ℤ◌, unsigned_abs, arith}
use Rattle.std.proofs.Math.Nat.{mod-lt, mul-le-mul_left, mul-le-mul, mul-add-mod_self_right, mul-add-div_right}
use Rattle.std.proofs.lemmas.Nat.{div-add-mod', div_below}
use Rattle.std.specs.Bool.{beq}
use Rattle.scalar_value.specs.Numbers.{with_sign, below_zero, half_size, half}

-- a multiple of the divisor is divided exactly
half_size-multiple : (k x n : ℕ) → 0 < n → half_size (k * n + x) n ≡ k + half_size x n
half_size-multiple k x n h =
    rw (mul-add-mod_self_right k n x, mul-add-div_right h k x) (after (nat_lt (2 * (x % n)) n) k (x / n)) where
      after : (b : Bool) (k q : ℕ) → (if b then k + q else k + q + 1) ≡ k + (if b then q else q + 1)
      after true k q = refl
      after false k q = omega arith

spread : (q n r s : ℕ) → (q * n + r) * s ≡ q * s * n + r * s
spread q n r s = omega arith

pub scaled_size : (size scale n : ℕ) → 0 < n → size / n * scale + half_size (size % n * scale) n ≡ half_size (size * scale) n
scaled_size size scale n h =
    let whole = div-add-mod' size n in
    let parts : size * scale ≡ size / n * scale * n + size % n * scale = ap (λ (x : ℕ). x * scale) (sym whole) ∙ spread (size / n) n (size % n) scale in
    sym (ap (λ (x : ℕ). half_size x n) parts ∙ half_size-multiple (size / n * scale) (size % n * scale) n h)

below : (p : ℕ) → 0 < p → (unsigned_abs (neg_ℤ (pos p)) ≡ p) × (below_zero (neg_ℤ (pos p)) ≡ true)
below zero h = absurd (omega arith)
below (suc p) h = (refl, refl)

scaled_negative : (m s : ℕ) → 0 < s → (unsigned_abs (negsuc m *ℤ pos s) ≡ suc m * s) × (below_zero (negsuc m *ℤ pos s) ≡ true)
scaled_negative m zero h = absurd (omega arith)
scaled_negative m (suc s) h = below (suc m * suc s) (omega arith)

-- the sign and the size of a scaled sum, by those of the sum
pub half_scaled : (sum : ℤ) (scale n : ℕ) → 0 < scale → half (sum *ℤ pos scale) (pos n) ≡ with_sign (below_zero sum) (half_size (unsigned_abs sum * scale) n)
unfolding half
half_scaled (pos m) scale n h = refl
half_scaled (negsuc m) scale n h =
    let parts = scaled_negative m scale h in
    ap₂ (λ (b : Bool) (x : ℕ). with_sign (not (beq b false)) (half_size x n)) parts.1 parts.0

within_one : (b : Bool) (q : ℕ) → (if b then q else q + 1) ≤ q + 1
within_one true q = omega arith
within_one false q = omega arith

half_small : (r scale n : ℕ) → r < n → half_size (r * scale) n ≤ scale + 1
half_small r scale n h =
    let below = div_below (r * scale) n (scale + 1) (omega arith) (product r scale n h) in
    let near = within_one (nat_lt (2 * (r * scale % n)) n) (r * scale / n) in omega arith where
      product : (r scale n : ℕ) → r < n → r * scale < (scale + 1) * n
      product r scale n h = let least = mul-le-mul_left scale (lt_to_le h) in omega arith where
        lt_to_le : r < n → r ≤ n
        lt_to_le p = omega arith

-- a mean's size is that of a number of 64 bits, in millionths
pub mean_small : (size scale n h : ℕ) → 0 < n → scale ≤ 1000000 → size ≤ n * 2 ^ 63 → h ≡ half_size (size % n * scale) n → size / n * scale + h ≤ 2 ^ 90
mean_small size scale n h pos_n small fits is =
    let quotient = div_below size n (2 ^ 63 + 1) pos_n (omega arith) in
    let near = half_small (size % n) scale n (mod-lt size pos_n) in
    let product = scaled (size / n) scale (omega arith) small in omega arith where
      scaled : (q scale : ℕ) → q ≤ 2 ^ 63 → scale ≤ 1000000 → q * scale ≤ 2 ^ 63 * 1000000
      scaled q scale a b = mul-le-mul a b
