-- What is counted of the batches that a fetch has folded.
use Rattle.std.specs.Prelude.{◌≡◌, ℕ, ◌+◌, ◌-◌, ◌<◌, ◌≤◌, ◌^◌, min, max, nat_eq, nat_lt, cond, List, [], ◌∷◌, ◌++◌, map, length, Option, IsSome, vec_capacity, slice_index_or}
use Rattle.scalar_value.specs.declared.value.Value.{Value}
use Rattle.plan_machine.specs.Lists.{weigh}
use Rattle.plan_machine.specs.Batch.{Batch, key}
use Rattle.fetch_counts.specs.declared.front.Front.{Front}
use Rattle.fetch_counts.specs.declared.front.Run.{Run}

-- a batch by its index and its number of rows
abbrev pub count_of : {R : Type 0} → Batch R → ℕ × ℕ
count_of b = (key b, length b.rows)

-- Batches are those of a run: no index from the first one on is missing, none is outside, and they have so many rows, as
-- far as 64 bits count.
pub record AreOf (from upto rows : ℕ) (own : List (ℕ × ℕ)) : Type 0 where
  pub low : weigh (λ b. cond (nat_lt b.0 from) 1 0) own ≡ 0
  pub high : weigh (λ b. cond (nat_lt b.0 upto) 0 1) own ≡ 0
  pub there : (i : ℕ) → from ≤ i → i < upto → 1 ≤ weigh (λ b. cond (nat_eq b.0 i) 1 0) own
  pub sum : rows ≡ min (weigh (λ b. b.1) own) (2 ^ 64 - 1)

-- batches are those of all these runs: each is of one of them
abbrev pub AreOfAll : List Run → List (ℕ × ℕ) → Type 0
AreOfAll [] all = (h : ℕ × ℕ → ℕ) → weigh h all ≡ 0
AreOfAll (r ∷ rs) all =
    (own : List (ℕ × ℕ)) × (rest : List (ℕ × ℕ))
    × AreOf r.from r.upto r.rows own
    × AreOfAll rs rest
    × ((h : ℕ × ℕ → ℕ) → weigh h all ≡ weigh h own + weigh h rest)

-- no run begins where the first one ends, or before
abbrev pub AreBehind : ℕ → List Run → Type 0
AreBehind upto behind = weigh (λ r. cond (nat_lt upto r.from) 0 1) behind ≡ 0

-- between two runs no index is missing
abbrev pub Touch : Run → Run → Type 0
Touch r t = (r.from ≤ t.upto) × (t.from ≤ r.upto)

-- a run touches none of these; of these no two touch
abbrev pub IsApart : Run → List Run → Type 0
IsApart r rs = (k : ℕ) (d : Run) → k < length rs → Touch r (slice_index_or rs k d) → ⊥

abbrev pub AreApart : List Run → Type 0
AreApart rs = (j k : ℕ) (d : Run) → j < k → k < length rs → Touch (slice_index_or rs j d) (slice_index_or rs k d) → ⊥

-- What is counted is what was folded, in as few runs as there can be.
abbrev pub FrontIs : {R : Type 0} → List (Batch R) → Front → Type 0
FrontIs folded f =
    AreOfAll (f.first ∷ f.behind.items) (map count_of folded)
    × AreBehind f.first.upto f.behind.items
    × AreApart f.behind.items

-- two runs as one
pub record IsJoined (r t joined : Run) : Type 0 where
  pub from : joined.from ≡ min r.from t.from
  pub upto : joined.upto ≡ max r.upto t.upto
  pub rows : joined.rows ≡ min (r.rows + t.rows) (2 ^ 64 - 1)

-- nothing was folded
pub record IsFresh (wanted : Option ℕ) (f : Front) : Type 0 where
  pub wanted_is : f.wanted ≡ wanted
  pub upto : f.first.upto ≡ 0
  pub rows : f.first.rows ≡ 0
  pub behind : f.behind.items ≡ []

-- What a fetch has folded is counted with one batch more, of this index and of so many rows, in as much room. Of another
-- node nothing is counted.
pub record IsNoted (old : Front) (index rows : ℕ) (f : Front) : Type 0 where
  pub wanted : f.wanted ≡ old.wanted
  pub counts : IsSome old.wanted → (folded : List (Batch (List Value))) (b : Batch (List Value)) → FrontIs folded old → key b ≡ index → length b.rows ≡ rows → FrontIs (folded ++ b ∷ []) f
  pub room : vec_capacity f.behind ≡ vec_capacity old.behind
  pub behind : length f.behind.items ≤ length old.behind.items + 1

-- the same is counted, perhaps with more room
pub record IsSameCount (old f : Front) : Type 0 where
  pub wanted : f.wanted ≡ old.wanted
  pub first : f.first ≡ old.first
  pub behind : f.behind.items ≡ old.behind.items
  pub room : vec_capacity old.behind ≤ vec_capacity f.behind

pub record AreSameCounts (old fronts : List Front) : Type 0 where
  pub size : length fronts ≡ length old
  pub each : (k : ℕ) (d : Front) → k < length old → IsSameCount (slice_index_or old k d) (slice_index_or fronts k d)

-- each fetch has room to count so many batches more
abbrev pub HaveRoom : ℕ → List Front → Type 0
HaveRoom more fronts =
    (k : ℕ) (d : Front) → k < length fronts → IsSome (slice_index_or fronts k d).wanted
    → length (slice_index_or fronts k d).behind.items + more ≤ vec_capacity (slice_index_or fronts k d).behind
