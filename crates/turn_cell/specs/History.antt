-- Histories: lists of entries, the oldest first.
use Rattle.std.specs.Prelude.{◌≡◌, ◌≢◌, ℕ, Bool, false, cond, ◌==◌, nat_lt, List, ◌++◌, length, filter, fold, Option, Some, None, refl}
use Rattle.std.proofs.Common.{ap, ne_eqb}

-- the state after these entries, where `after` gives the state after one entry
abbrev pub replay : {S E : Type 0} → (S → E → S) → S → List E → S
replay after state entries = fold after state entries

-- whether what has this owner, or none, belongs to the number n
abbrev pub belongs_to : ℕ → Option ℕ → Bool
belongs_to n None = false
belongs_to n (Some m) = m == n

-- what another number owns, or none, does not belong to n
pub belongs_to-other : (n : ℕ) (owner : Option ℕ) → owner ≢ Some n → belongs_to n owner ≡ false
belongs_to-other n None other = refl
belongs_to-other n (Some m) other = ne_eqb m n (λ e. other (ap Some e))

module _ {E : Type 0} where
  -- the entries that belong to the number n, in their order
  abbrev pub entries_of : (E → Option ℕ) → ℕ → List E → List E
  entries_of owner n entries = filter (λ e. belongs_to n (owner e)) entries

  -- the history begins with these entries
  abbrev pub BeginsWith : List E → List E → Type 0
  BeginsWith history entries = (more : List E) × (history ≡ entries ++ more)

  -- the longer of two histories, and the first where they are equally long
  abbrev pub longer : List E → List E → List E
  longer xs ys = cond (nat_lt (length xs) (length ys)) ys xs
