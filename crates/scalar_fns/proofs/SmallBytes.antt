-- The bytes of digits are ASCII, and so is a front of them.
use Rattle.std.proofs.Common.{ℕ, zero, suc, ◌+◌, ◌%◌, Bool, true, false, ◌&&◌, nat_lt, ◌≡◌, refl, List, [], ◌∷◌, take, arith}
use Rattle.std.specs.List.{list_all}
use Rattle.scalar_fns.specs.Written.{six_places}

small : (n : ℕ) → nat_lt (48 + n % 10) 128 ≡ true
small n = grind arith

pub six_small : (n : ℕ) → list_all (λ byte. nat_lt byte 128) (six_places n) ≡ true
six_small n = simp small

both : (a b : Bool) → (a && b) ≡ true → (a ≡ true) × (b ≡ true)
both true b h = (refl, h)
both false b h = cc

join : (a b : Bool) → a ≡ true → b ≡ true → (a && b) ≡ true
join true b p q = q
join false b p q = cc

pub front_small : (k : ℕ) (xs : List ℕ) → list_all (λ byte. nat_lt byte 128) xs ≡ true → list_all (λ byte. nat_lt byte 128) (take k xs) ≡ true
front_small zero xs h = refl
front_small (suc k) [] h = refl
front_small (suc k) (x ∷ xs) h =
    let parts = both (nat_lt x 128) (list_all (λ byte. nat_lt byte 128) xs) h in
    join (nat_lt x 128) (list_all (λ byte. nat_lt byte 128) (take k xs)) parts.0 (front_small k xs parts.1)
