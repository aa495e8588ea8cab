-- `half` is nearest, and `floor_div` is rounded down.
use Rattle.std.proofs.Common.{ℕ, zero, suc, ◌+◌, ◌-◌, ◌*◌, ◌/◌, ◌%◌, ◌<◌, ◌≤◌, nat_lt, ℤ, pos, negsuc, neg_ℤ, ◌+ℤ◌, ◌-ℤ◌, ◌*ℤ◌, ◌≤ℤ◌, ◌<ℤ◌, unsigned_abs, Bool, true, false, if◌then◌else◌, ◌⊎◌, inl, inr, ◌≡◌, ◌≢◌, refl, sym, ap, ◌∙◌, arith}
use Rattle.std.proofs.lemmas.Int.{ints}
use Rattle.std.proofs.Math.Nat.{mod-lt, div-add-mod}
use Rattle.scalar_value.specs.Numbers.{with_sign, below_zero, signs_differ, half_size, half, rest_size, floor_div, floor_rest, gap_of, IsNearest, IsRoundedDown, HalfIsNearest, FloorIsRoundedDown}
use Rattle.scalar_value.proofs.Division.{rest_is, neg_times_pos, neg_times_neg, not_zero}

-- the gap of sizes
near_by_test : (x y k r : ℕ) → r < y → y * k + r ≡ x → (b : Bool) → nat_lt (2 * r) y ≡ b → (q : ℕ) → q ≡ (if b then k else k + 1) → (2 * ((x - q * y) + (q * y - x)) ≤ y) × (2 * ((x - q * y) + (q * y - x)) ≡ y → x < q * y)
near_by_test x y k r l e true t q is = rw is (let low : 2 * r < y = grind arith in (omega arith, λ h. omega arith))
near_by_test x y k r l e false t q is = rw is (let high : y ≤ 2 * r = grind arith in (omega arith, λ h. omega arith))

near_size : (x y : ℕ) → 0 < y → (2 * ((x - half_size x y * y) + (half_size x y * y - x)) ≤ y) × (2 * ((x - half_size x y * y) + (half_size x y * y - x)) ≡ y → x < half_size x y * y)
near_size x y h = near_by_test x y (x / y) (x % y) (mod-lt x h) (div-add-mod x y) (nat_lt (2 * (x % y)) y) refl (half_size x y) refl

gap_up : (m n : ℕ) → unsigned_abs (pos m -ℤ pos n) ≡ (m - n) + (n - m)
gap_up m n = omega (arith, ints)

gap_down : (m n : ℕ) → unsigned_abs (negsuc m -ℤ neg_ℤ (pos n)) ≡ (suc m - n) + (n - suc m)
gap_down m n = omega (arith, ints)

gap_sizes : (a b : ℤ) (q : ℕ) → gap_of a b (with_sign (signs_differ a b) q) ≡ (unsigned_abs a - q * unsigned_abs b) + (q * unsigned_abs b - unsigned_abs a)
gap_sizes (pos x) (pos y) q = gap_up x (q * y)
gap_sizes (pos x) (negsuc y) q = ap (λ z. unsigned_abs (pos x -ℤ z)) (neg_times_neg q y) ∙ gap_up x (q * suc y)
gap_sizes (negsuc x) (pos y) q = ap (λ z. unsigned_abs (negsuc x -ℤ z)) (neg_times_pos q y) ∙ gap_down x (q * y)
gap_sizes (negsuc x) (negsuc y) q = gap_down x (q * suc y)

size_of_sign : (s : Bool) (q : ℕ) → unsigned_abs (with_sign s q) ≡ q
size_of_sign false q = refl
size_of_sign true zero = refl
size_of_sign true (suc q) = refl

positive : (b : ℤ) → b ≢ pos 0 → 0 < unsigned_abs b
positive (pos n) h = not_zero n h
positive (negsuc n) h = omega arith

pub half_nearest : HalfIsNearest
unfolding half
half_nearest a b h =
    let near = near_size (unsigned_abs a) (unsigned_abs b) (positive b h) in
    rw (gap_sizes a b (half_size (unsigned_abs a) (unsigned_abs b)), size_of_sign (signs_differ a b) (half_size (unsigned_abs a) (unsigned_abs b))) near

rest_small : (s : Bool) (x y : ℕ) → 0 < y → rest_size s x y < y
rest_small true x y h = mod-lt (y - x % y) h
rest_small false x y h = mod-lt x h

down_of_rest : (b rest : ℤ) (r : ℕ) → r < unsigned_abs b → rest ≡ with_sign (below_zero b) r → ((pos 0 ≤ℤ rest) × (rest <ℤ b)) ⊎ ((rest ≤ℤ pos 0) × (b <ℤ rest))
down_of_rest (pos n) rest r l e = inl (omega (arith, ints), omega (arith, ints))
down_of_rest (negsuc n) rest r l e = inr (omega (arith, ints), omega (arith, ints))

pub floor_down : FloorIsRoundedDown
floor_down a b h =
    down_of_rest b (floor_rest a b) (rest_size (signs_differ a b) (unsigned_abs a) (unsigned_abs b)) (rest_small (signs_differ a b) (unsigned_abs a) (unsigned_abs b) (positive b h)) (rest_is a b h)
