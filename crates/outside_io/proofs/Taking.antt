-- What a sink has taken after one piece and then another.
use Rattle.std.proofs.Common.{ℕ, ◌+◌, List, ◌++◌, take, drop, Option, Some, None, refl, ap, append_assoc}
use Rattle.std.proofs.Math.Seq.{take-add}
use Rattle.outside_io.specs.Outside.{Takes}

Takes-then : (old mid new : Option (List ℕ)) (xs ys : List ℕ) → Takes old mid xs → Takes mid new ys → Takes old new (xs ++ ys)
Takes-then (Some t) mid new xs ys p q = rw (q, p) (ap (λ (l : List ℕ). Some l) (append_assoc t xs ys))
Takes-then None mid new xs ys p q = rw (q, p) refl

-- the first bytes, and then more
pub Takes-next : (old mid new : Option (List ℕ)) (bytes : List ℕ) (at n : ℕ) → Takes old mid (take at bytes) → Takes mid new (take n (drop at bytes)) → Takes old new (take (at + n) bytes)
Takes-next old mid new bytes at n p q =
    rw (take-add at n bytes) (Takes-then old mid new (take at bytes) (take n (drop at bytes)) p q)
