-- What each atomic step makes of the view of its seat.
-- Views: of the first seat, of the two sides of a split and of the two sides of a join.
-- Steps: the turn is taken, an entry is counted, the turn is given back. A seat before or after a step is its view with the list of the slots that it holds.
use Rattle.std.specs.Prelude.{◌≡◌, ◌≢◌, ℕ, true, false, List, [], ◌∷◌, ◌++◌, Option, Some, None}
use Rattle.atomic_table.specs.Table.{Me, Step, rest}
use Rattle.turn_cell.specs.History.{entries_of, BeginsWith}
use Rattle.turn_cell.specs.Knowledge.{newly_made, entered, outside, with_entry, splitting, split_off, joining}
use Rattle.turn_cell.specs.declared.knowledge.View.{View}

module _ {M E : Type 0} where
  -- the view of the first seat, with the number n
  abbrev pub first_view : M → ℕ → View M E
  first_view start n = record { is_live = true; start = Some start; knows = newly_made n }

  -- a split: the first seat's view
  abbrev pub splitting_view : ℕ → View M E → View M E
  splitting_view n v = record v { knows = splitting n v.knows }

  -- a split: the new seat's view
  abbrev pub split_view : ℕ → View M E → View M E
  split_view n v = record { is_live = true; start = v.start; knows = split_off n v.knows }

  -- a join: the first seat's view
  abbrev pub joining_view : View M E → View M E → View M E
  joining_view v other = record v { knows = joining v.knows other.knows }

  -- a join: what is left of the other's view, of which nothing is said any more
  abbrev pub spent_view : View M E
  spent_view = record { is_live = false; start = None; knows = newly_made 0 }

  -- the turn is given back: the seat is outside it, and no longer holds the slot
  abbrev pub Gives : {S : Type 0} → Step S → Me S (View M E) → ℕ → Me S (View M E) → Type 0
  Gives step me found me' = (me'.0 ≡ record me.0 { knows = outside me.0.knows }) × (me'.1 ≡ rest me.1)

module _ {B M E J : Type 0} (owner : E → Option ℕ) (history : B → List E) (job_of : B → J) (job : M → J) where
  -- what the turn hands out: a machine with the cell's job, whose history begins with what the seat had seen, and has just those entries of the seat's number that the seat left
  pub record HandsOut (v : View M E) (b : B) : Type 0 where
    pub same_job : (start : M) → v.start ≡ Some start → job_of b ≡ job start
    pub begins : BeginsWith (history b) v.knows.seen
    pub seen_own : entries_of owner v.knows.number v.knows.seen ≡ v.knows.own_entries
    pub all_own : entries_of owner v.knows.number (history b) ≡ v.knows.own_entries

  -- the turn is taken where word 1 was 0, and nothing is changed where it wasn't
  pub record Takes (step : Step (Option B)) (me : Me (Option B) (View M E)) (found : ℕ) (me' : Me (Option B) (View M E)) : Type 0 where
    pub taken : found ≡ 0 → (b : B) × (me'.1 ≡ (0, Some b) ∷ []) × (me'.0 ≡ record me.0 { knows = entered me.0.knows (history b) }) × HandsOut me.0 b
    pub refused : found ≢ 0 → me' ≡ me

module _ {B M E : Type 0} (owner : E → Option ℕ) (history : B → List E) where
  -- an entry is counted: it is the one by which the machine in the slot that the seat holds is ahead of what the seat has seen
  abbrev pub Counts : Step (Option B) → Me (Option B) (View M E) → ℕ → Me (Option B) (View M E) → Type 0
  Counts step me found me' =
      (b : B) (e : E) → me.1 ≡ (0, Some b) ∷ [] → history b ≡ me.0.knows.seen ++ e ∷ []
      → (me'.1 ≡ me.1) × (me'.0 ≡ record me.0 { knows = with_entry owner me.0.knows e })
