-- Batches of rows, and the order in which they are put back.
use Rattle.std.specs.Prelude.{ℕ, ◌*◌, Bool, cond, nat_eq, nat_lt, List, [], ◌∷◌, ◌++◌, length, take, drop, Option, Some, None}
use Rattle.plan_machine.specs.Phases.{part_count_of}
use Rattle.plan_machine.specs.Lists.{weigh}

-- A batch that waits or was taken: its index or none, its rows, and how many rows of its output were
-- given already, which is 0 but for what is left of a batch of a join.
pub record Batch (R : Type 0) : Type 0 where
  pub index : Option ℕ
  pub rows : List R
  pub from : ℕ

-- no batch
abbrev pub blank : {R : Type 0} → Batch R
blank = record { index = None; rows = []; from = 0 }

abbrev pub key_of : Option ℕ → ℕ
key_of None = 0
key_of (Some i) = i

-- the place of a batch in index order: all that have no index stand together
abbrev pub key : {R : Type 0} → Batch R → ℕ
key b = key_of b.index

-- Sorted by index, where batches with one index, or with none, keep their order.
abbrev pub insert_batch : {R : Type 0} → Batch R → List (Batch R) → List (Batch R)
insert_batch x [] = x ∷ []
insert_batch x (y ∷ ys) = cond (nat_lt (key y) (key x)) (y ∷ insert_batch x ys) (x ∷ y ∷ ys)

abbrev pub sort_batches : {R : Type 0} → List (Batch R) → List (Batch R)
sort_batches [] = []
sort_batches (x ∷ xs) = insert_batch x (sort_batches xs)

-- the rows of the batches, one batch after another
abbrev pub rows_of : {R : Type 0} → List (Batch R) → List R
rows_of [] = []
rows_of (x ∷ xs) = x.rows ++ rows_of xs

-- The gathered rows of all batches: in index order where they have indexes, else as they stand.
unfoldable pub gathered : {R : Type 0} → List (Batch R) → List R
gathered xs = rows_of (sort_batches xs)

-- An index is given exactly where the order of the rows is kept.
abbrev pub marked : Bool → Option ℕ → Option ℕ
marked kept i = cond kept i None

-- how many batches of `batch` rows hold the rows
abbrev pub parts : {R : Type 0} → ℕ → List R → ℕ
parts batch rows = part_count_of (length rows) batch

-- batch k of the rows, counted from 0: `batch` rows from row `k * batch` on, as far as they are there
abbrev pub piece : {R : Type 0} → Bool → ℕ → List R → ℕ → Batch R
piece kept batch rows k = record { index = marked kept (Some k); rows = take batch (drop (k * batch) rows); from = 0 }

-- the batches with index i: their rows, and how many they are
abbrev pub has_key : {R : Type 0} → ℕ → Batch R → Bool
has_key i b = nat_eq (key b) i

abbrev pub rows_at : {R : Type 0} → ℕ → List (Batch R) → List R
rows_at i [] = []
rows_at i (x ∷ xs) = cond (has_key i x) (x.rows ++ rows_at i xs) (rows_at i xs)

abbrev pub count_at : {R : Type 0} → ℕ → List (Batch R) → ℕ
count_at i xs = weigh (λ b. cond (has_key i b) 1 0) xs
