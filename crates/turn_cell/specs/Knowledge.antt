-- What a seat knows, and what each call makes of it.
use Rattle.std.specs.Prelude.{ℕ, ◌+◌, ◌-◌, ◌==◌, Bool, true, false, cond, List, [], ◌∷◌, ◌++◌, Option}
use Rattle.std.specs.List.{list_any}
use Rattle.turn_cell.specs.History.{entries_of, longer}
use Rattle.turn_cell.specs.declared.knowledge.Known.{Known}

-- whether the number n is one of these
abbrev pub is_one_of : List ℕ → ℕ → Bool
is_one_of numbers n = list_any (λ m. m == n) numbers

module _ {E : Type 0} where
  -- the first seat, with the number n: nothing was seen or left, and n alone was given out
  abbrev pub newly_made : ℕ → Known E
  newly_made n = record { number = n; seen = []; own_entries = []; in_turn = false; is_first = true; given = n ∷ []; joined = []; unjoined = 0 }

  -- in the turn, where the whole history is seen
  abbrev pub entered : Known E → List E → Known E
  entered k history = record k { seen = history; in_turn = true }

  -- outside the turn, and nothing else is changed
  abbrev pub outside : Known E → Known E
  outside k = record k { in_turn = false }

  -- one entry more was seen, and left where it belongs to the seat's number
  abbrev pub with_entry : (E → Option ℕ) → Known E → E → Known E
  with_entry owner k e = record k { seen = k.seen ++ e ∷ []; own_entries = k.own_entries ++ entries_of owner k.number (e ∷ []) }

  -- the first seat, after it gave out the number n
  abbrev pub splitting : ℕ → Known E → Known E
  splitting n k = record k { given = n ∷ k.given; unjoined = k.unjoined + 1 }

  -- the new seat with the number n: it has seen as much, and left nothing
  abbrev pub split_off : ℕ → Known E → Known E
  split_off n k = record { number = n; seen = k.seen; own_entries = []; in_turn = false; is_first = false; given = []; joined = []; unjoined = 0 }

  -- the first seat, after another was joined: it has seen what either had, and knows what the other left
  abbrev pub joining : Known E → Known E → Known E
  joining k other = record k { seen = longer k.seen other.seen; joined = (other.number, other.own_entries) ∷ k.joined; unjoined = k.unjoined - 1 }

  -- the entries that the joined seat with the number n left
  abbrev pub joined_entries : List (ℕ × List E) → ℕ → List E
  joined_entries [] n = []
  joined_entries (p ∷ joined) n = cond (p.0 == n) p.1 (joined_entries joined n)

  -- the entries that the seat with the number n left, where it is the first seat or was joined
  abbrev pub entries_left : Known E → ℕ → List E
  entries_left k n = cond (k.number == n) k.own_entries (joined_entries k.joined n)
