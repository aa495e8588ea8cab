-- The rule that every atomic step keeps.
-- The table has two words and one slot. Word 0 is the length of the history. Word 1 is 0 where the turn is free and 1 where a seat has it. While the turn is free, the machine is at home in the slot.
-- The rule speaks of lists of entries. It holds no state of a machine: what a machine stores is kept by its own type.
use Rattle.std.specs.Prelude.{◌≡◌, ◌≢◌, ℕ, ◌+◌, true, false, List, [], length, map, count_by, slice_index, All, Option, Some, None}
use mathlib.Core.Option.{some, none}
use lib.ListN.{get_elem?}
use Rattle.atomic_table.specs.Table.{State}
use Rattle.turn_cell.specs.History.{entries_of, BeginsWith}
use Rattle.turn_cell.specs.Knowledge.{is_one_of}
use Rattle.turn_cell.specs.declared.knowledge.View.{View}

module _ {M E : Type 0} where
  -- how many seats are there
  abbrev pub live_count : List (View M E) → ℕ
  live_count views = count_by (λ v. v.is_live) views

  -- the view with this index is v, and its seat is there
  abbrev pub Sits : List (View M E) → ℕ → View M E → Type 0
  Sits views id v = (get_elem? views id ≡ some v) × (v.is_live ≡ true)

-- log is the history, and seat_of tells which view has a number, as long as its seat is there
module _ {E : Type 0} (owner : E → Option ℕ) (log : List E) (seat_of : ℕ → Option ℕ) where
  -- a number that was joined, with its entries
  pub record IsJoined (given : List ℕ) (p : ℕ × List E) : Type 0 where
    -- the history has just these entries of it
    pub entries : entries_of owner p.0 log ≡ p.1
    -- it was given out, and no seat has it any more
    pub was_given : is_one_of given p.0 ≡ true
    pub unseated : seat_of p.0 ≡ None

  -- what the first seat knows of all numbers: those that were given out, those that were joined, and how many seats were not joined yet
  pub record FitsFirst (live id : ℕ) (given : List ℕ) (joined : List (ℕ × List E)) (unjoined : ℕ) : Type 0 where
    -- its view is the first one, so there is one such seat
    pub is_first_view : id ≡ 0
    -- the joined numbers are what they are said to be
    pub each_joined : All (IsJoined given) joined
    -- a number that was not given out is new: no seat has it, and the history has no entry of it
    pub new : (n : ℕ) → is_one_of given n ≡ false → (seat_of n ≡ None) × (entries_of owner n log ≡ [])
    -- a number that was given out and that no seat has was joined
    pub all_known : (n : ℕ) → is_one_of given n ≡ true → seat_of n ≡ None → is_one_of (map (λ p. p.0) joined) n ≡ true
    -- beside itself only the seats that were not joined yet are there
    pub counts : live ≡ unjoined + 1

  -- what a seat that is there knows
  pub record Fits {M : Type 0} (start : M) (holder turn live id : ℕ) (v : View M E) : Type 0 where
    -- the machine that the cell began with, and so the job that all views name
    pub started : v.start ≡ Some start
    -- the history begins with what it has seen
    pub begins : BeginsWith log v.knows.seen
    -- the history has just those entries of its number that it left, and it has seen all of these
    pub seen_own : entries_of owner v.knows.number v.knows.seen ≡ v.knows.own_entries
    pub all_own : entries_of owner v.knows.number log ≡ v.knows.own_entries
    -- no other seat has its number
    pub seated : seat_of v.knows.number ≡ Some id
    -- where it is in the turn, word 1 is 1, no other seat is in the turn, and it has seen the whole history
    pub in_turn : v.knows.in_turn ≡ true → (turn ≡ 1) × (id ≡ holder) × (v.knows.seen ≡ log)
    -- where it is the first seat, it knows all numbers
    pub first : v.knows.is_first ≡ true → FitsFirst live id v.knows.given v.knows.joined v.knows.unjoined

module _ {B M E J : Type 0} (owner : E → Option ℕ) (history : B → List E) (job_of : B → J) (job : M → J) where
  -- the rule, over the machine that the cell began with
  pub record InTurns (start : M) (s : State (Option B) (View M E)) : Type 0 where
    -- there are a history, which seat has each number, and which seat has the turn
    pub log : List E
    pub seat_of : ℕ → Option ℕ
    pub holder : ℕ
    -- word 0 is the length of the history
    pub two_words : length s.words ≡ 2
    pub length_is : slice_index s.words 0 ≡ length log
    -- where word 1 is 0 a machine is at home, with the whole history and the job of the first machine, and no seat is in the turn
    pub free : slice_index s.words 1 ≡ 0 → (b : B) × (get_elem? s.homes 0 ≡ some (some (Some b))) × (history b ≡ log) × (job_of b ≡ job start)
    -- else the slot is out, and one seat is in the turn
    pub taken : slice_index s.words 1 ≢ 0 → (get_elem? s.homes 0 ≡ some none) × ((v : View M E) × Sits s.views holder v × (v.knows.in_turn ≡ true))
    -- some seat has seen the whole history, which so is the longest that any seat has seen
    pub longest : (id : ℕ) × (v : View M E) × Sits s.views id v × (v.knows.seen ≡ log)
    -- a number that a seat has is that of a seat which is there
    pub each_seat : (n id : ℕ) → seat_of n ≡ Some id → (v : View M E) × Sits s.views id v × (v.knows.number ≡ n)
    -- what each seat knows fits the history
    pub fits : (id : ℕ) (v : View M E) → Sits s.views id v → Fits owner log seat_of start holder (slice_index s.words 1) (live_count s.views) id v
