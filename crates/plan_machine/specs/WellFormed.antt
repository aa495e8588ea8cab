-- What the laws ask of a plan. All of it speaks of the nodes 1 to the sink alone.
use Rattle.std.specs.Prelude.{◌≡◌, ℕ, ◌<◌, ◌≤◌, Bool, true, false, List, [], ◌++◌, length, ◌⊎◌, Some, None}
use Rattle.plan_machine.specs.Lists.{weigh}
use Rattle.plan_machine.specs.Plan.{Plan, Node, IsNode, IsEdge, IsSource, Folds, IsJoin, OnlyStreams, folds_from, streams_from}
use Rattle.plan_machine.specs.Meaning.{SameRows, SameSet}

-- a test of equality of rows
pub record Equality (R : Type 0) : Type 0 where
  pub same : R → R → Bool
  pub tells : (x y : R) → same x y ≡ true → x ≡ y
  pub self : (x : R) → same x x ≡ true

-- it streams, alone or as a join
abbrev pub Streams : {R : Type 0} → Node R → Type 0
Streams v = OnlyStreams v ⊎ IsJoin v

module _ {R : Type 0} (P : Plan R) where
  -- What the rows that a node gives may depend on. Such laws hold of each kind of node; they let rows
  -- be taken batch by batch, by any worker, in any order.
  pub record LawfulNode (n : ℕ) : Type 0 where
    -- what streamed rows give goes row by row
    pub part_nil : Streams (P.node n) → (b : List R) → (P.node n).part b [] ≡ []
    pub part_append : Streams (P.node n) → (b xs ys : List R) → (P.node n).part b (xs ++ ys) ≡ (P.node n).part b xs ++ (P.node n).part b ys
    -- gathered rows count only in their order where that is kept, else only in how often they stand there
    pub part_same : IsJoin (P.node n) → (b c xs : List R) → SameRows (P.node (folds_from P n)).kept b c → (h : R → ℕ) → weigh h ((P.node n).part b xs) ≡ weigh h ((P.node n).part c xs)
    pub rest_same : Folds (P.node n) → (P.node n).tails ≡ true → (b c xs ys : List R) → SameRows (P.node (folds_from P n)).kept b c → SameSet xs ys → SameRows (P.node n).kept ((P.node n).rest b xs) ((P.node n).rest c ys)
    -- a fetch looks at no more than the first rows that it wants
    pub fetch_wants : (m : ℕ) → (P.node n).wanted ≡ Some m → (front xs ys zs : List R) → m ≤ length front → (P.node n).rest (front ++ xs) zs ≡ (P.node n).rest (front ++ ys) zs

  pub record Lawful : Type 0 where
    pub equality : Equality R
    pub nodes : (n : ℕ) → IsNode P n → LawfulNode n

  -- e is an input of node n: it stands before it, and n is its user
  pub record IsInput (n e : ℕ) : Type 0 where
    pub node : 1 ≤ e
    pub before : e < n
    pub user : P.user e ≡ n

  -- A node in its place: its inputs, what it may do, and where order is kept.
  pub record IsPlaced (n : ℕ) : Type 0 where
    pub starts : IsSource (P.node n) ⊎ (Folds (P.node n) ⊎ OnlyStreams (P.node n))
    pub first : (IsSource (P.node n) → ⊥) → IsInput n (P.node n).first
    pub second : IsJoin (P.node n) → IsInput n (P.node n).second
    pub apart : IsJoin (P.node n) → (P.node n).first ≡ (P.node n).second → ⊥
    -- a node that only streams has no tails; one that gathers its one input has them, but for the sink
    pub plain : OnlyStreams (P.node n) → (P.node n).tails ≡ false
    pub gives : n < P.sink → Folds (P.node n) → (P.node n).streams ≡ false → (P.node n).tails ≡ true
    -- a streaming node keeps order only where its input does, a join never does; only joins are cut, and
    -- those that tail always are
    pub in_order : OnlyStreams (P.node n) → (P.node n).kept ≡ true → (P.node (streams_from P n)).kept ≡ true
    pub loose_join : IsJoin (P.node n) → (P.node n).kept ≡ false
    pub loose_cuts : (P.node n).cuts ≡ true → (P.node n).kept ≡ false
    pub closes : IsJoin (P.node n) → (P.node n).tails ≡ true → (P.node n).cuts ≡ true
    -- a fetch gathers its one input, whose order is kept
    pub fetch : (m : ℕ) → (P.node n).wanted ≡ Some m → Folds (P.node n) × ((P.node n).streams ≡ false) × ((P.node (folds_from P n)).kept ≡ true)

  -- The sink gathers its one input and gives nothing, and keeps order only where its input does.
  pub record IsSinkNode (n : ℕ) : Type 0 where
    pub folds : Folds (P.node n)
    pub only_folds : ((P.node n).streams ≡ false) × ((P.node n).tails ≡ false)
    pub no_fetch : (P.node n).wanted ≡ None
    pub in_order : (P.node n).kept ≡ true → (P.node (folds_from P n)).kept ≡ true

  pub record WellFormed : Type 0 where
    pub nodes : (n : ℕ) → IsNode P n → IsPlaced n
    pub sink : IsSinkNode P.sink
    pub sink_node : 1 ≤ P.sink
    -- each edge leads to a later node
    pub users : (e : ℕ) → IsEdge P e → (e < P.user e) × (P.user e ≤ P.sink)
    pub batch : 1 ≤ P.batch
    pub resume : P.resume ≤ P.pause
