-- Files by name, and the counts at their places.
use Rattle.std.proofs.Common.{◌≡◌, ◌≢◌, ℕ, ◌+◌, ◌<◌, ◌≤◌, Bool, true, false, List, [], ◌∷◌, length, get_or, set, Some, None, IsSome, refl, ap, sym, ◌∙◌, arith, get_or-set_other}
use Rattle.std.proofs.lemmas.Slice.Eq.{bytes_eq-Decides}
use Rattle.outside_io.specs.Memory.{Named, is_named, place_named, file_named}

one-add : (n : ℕ) → 1 + n ≡ Prim.Native.Nat.suc n
one-add n = omega arith

-- the file of a name is the one at its place
abbrev IsAt : Named → List ℕ → List ℕ × List ℕ → Type 0
IsAt files name d = place_named files name < length files → file_named files name ≡ Some (get_or files (place_named files name) d).1

file_at_cons : (b : Bool) (file : List ℕ × List ℕ) (files : Named) (name : List ℕ) (d : List ℕ × List ℕ) → is_named name file ≡ b → IsAt files name d → IsAt (file ∷ files) name d
file_at_cons true file files name d e ih within = rw e refl
file_at_cons false file files name d e ih within =
    let inner : place_named files name < length files = omega (arith, rw e at within) in
    rw (e, one-add) (ih inner)

pub file_at : (files : Named) (name : List ℕ) (d : List ℕ × List ℕ) → place_named files name < length files → file_named files name ≡ Some (get_or files (place_named files name) d).1
file_at [] name d within = absurd (omega arith)
file_at (file ∷ files) name d within =
    file_at_cons (is_named name file) file files name d refl (file_at files name d) within

-- where the place is the number of files there is none of the name
abbrev IsNotThere : Named → List ℕ → Type 0
IsNotThere files name = length files ≤ place_named files name → file_named files name ≡ None

not_there_cons : (b : Bool) (file : List ℕ × List ℕ) (files : Named) (name : List ℕ) → is_named name file ≡ b → IsNotThere files name → IsNotThere (file ∷ files) name
not_there_cons true file files name e ih above = absurd (omega (arith, rw e at above))
not_there_cons false file files name e ih above = rw e (ih (omega (arith, rw e at above)))

pub not_there : (files : Named) (name : List ℕ) → length files ≤ place_named files name → file_named files name ≡ None
not_there [] name above = refl
not_there (file ∷ files) name above = not_there_cons (is_named name file) file files name refl (not_there files name) above

-- two names, of which one is that of a file, have different places
abbrev AreApart : Named → List ℕ → List ℕ → Type 0
AreApart files other name = IsSome (file_named files other) → place_named files other ≢ place_named files name

apart_cons : (b1 b2 : Bool) (file : List ℕ × List ℕ) (files : Named) (other name : List ℕ) → is_named other file ≡ b1 → is_named name file ≡ b2 → other ≢ name → AreApart files other name → AreApart (file ∷ files) other name
apart_cons true true file files other name e1 e2 differ ih there =
    absurd (differ (sym ((bytes_eq-Decides file.0 other).0 e1) ∙ (bytes_eq-Decides file.0 name).0 e2))
apart_cons true false file files other name e1 e2 differ ih there = rw (e1, e2) (λ h. omega arith)
apart_cons false true file files other name e1 e2 differ ih there = rw (e1, e2) (λ h. omega arith)
apart_cons false false file files other name e1 e2 differ ih there =
    rw (e1, e2) (λ h. ih (rw e1 at there) (omega arith))

apart : (files : Named) (other name : List ℕ) → other ≢ name → AreApart files other name
apart [] other name differ there = cc
apart (file ∷ files) other name differ there =
    apart_cons (is_named other file) (is_named name file) file files other name refl refl differ (apart files other name differ) there

-- a fault at the place of one name leaves the count of another file that is there
pub others_kept : (files : Named) (counts : List ℕ) (name other : List ℕ) (count : ℕ) → other ≢ name → IsSome (file_named files other) → Some (get_or (set counts (place_named files name) count) (place_named files other) 0) ≡ Some (get_or counts (place_named files other) 0)
others_kept files counts name other count differ there =
    ap (λ (n : ℕ). Some n) (get_or-set_other counts (place_named files name) (place_named files other) count 0 (apart files other name differ there))
