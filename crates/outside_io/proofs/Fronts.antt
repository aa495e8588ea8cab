-- How a file is read from its front, piece by piece.
use Rattle.std.proofs.Common.{◌≡◌, ℕ, ◌+◌, ◌<◌, ◌≤◌, List, length, take, drop, Option, Some, None, refl, ap, sym, ◌∙◌, arith, length-drop, length-take}
use Rattle.std.proofs.lemmas.List.{take_all}
use Rattle.std.proofs.Math.Seq.{take-add}
use Rattle.outside_io.specs.Outside.{IsNext}

-- the first `filled` bytes of the buffer are those of the file; of a file that is not there nothing was read
abbrev pub IsFront : Option (List ℕ) → ℕ → List ℕ → Type 0
IsFront (Some file) filled buffer = take filled buffer ≡ take filled file
IsFront None filled buffer = filled ≡ 0

pub front_next : (file : Option (List ℕ)) (old now : List ℕ) (filled n : ℕ) → IsFront file filled old → take filled now ≡ take filled old → IsNext file filled now n → IsFront file (filled + n) now
front_next (Some file) old now filled n front kept more =
    rw (take-add filled n now, take-add filled n file, kept, front, more.bytes) refl
front_next None old now filled n front kept more = absurd more

-- nothing more with room left: that is the file
pub front_whole : (file : Option (List ℕ)) (now : List ℕ) (filled n : ℕ) → filled < length now → n ≡ 0 → IsFront file (filled + n) now → IsNext file filled now n → file ≡ Some (take (filled + n) now)
front_whole (Some file) now filled n room none front more =
    let left : 0 < length (drop filled now) = omega (arith, length-drop filled now) in
    let ended : length file ≤ filled + n = omega (arith, more.ended none left) in
    ap (λ (l : List ℕ). Some l) (sym (front ∙ take_all (filled + n) file ended))
front_whole None now filled n room none front more = absurd more

-- more than the limit
pub front_above : (file : Option (List ℕ)) (now : List ℕ) (filled limit : ℕ) → filled ≤ length now → limit < filled → IsFront file filled now → (bytes : List ℕ) × (file ≡ Some bytes) × (limit < length bytes)
front_above (Some file) now filled limit within above front =
    (file, refl, omega (arith, ap length front, length-take filled now, length-take filled file))
front_above None now filled limit within above front = absurd (omega arith)
