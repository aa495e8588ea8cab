-- What a plan means: rows over whole lists, with no batch, worker or order of events.
use Rattle.std.specs.Prelude.{◌≡◌, ℕ, zero, suc, Bool, true, false, cond, List, [], ◌++◌}
use Rattle.plan_machine.specs.declared.entry.Phase.{Phase}
use Rattle.plan_machine.specs.declared.entry.Phase.TheVariants.{Emitting, Folding, Streaming, Tailing, Sealed, Done}
use Rattle.plan_machine.specs.Lists.{weigh}
use Rattle.plan_machine.specs.Plan.{Plan, Node}

-- The same rows: as lists where their order is kept. Else each row stands in both equally often, which
-- is that the lists weigh the same however rows are weighed.
abbrev pub SameRows : {R : Type 0} → Bool → List R → List R → Type 0
SameRows true xs ys = xs ≡ ys
SameRows {R} false xs ys = (h : R → ℕ) → weigh h xs ≡ weigh h ys

-- The same rows stand in both, however often.
abbrev pub SameSet : {R : Type 0} → List R → List R → Type 0
SameSet {R} xs ys = (h : R → ℕ) → (weigh h xs ≡ 0 → weigh h ys ≡ 0) × (weigh h ys ≡ 0 → weigh h xs ≡ 0)

-- What a node gives, from the rows of its first and second input. A source gives its table. A node that
-- only streams gives what its input's rows give. A node that gathers its one input gives its tails, and
-- the sink the rows themselves. A join gathers its second input, streams its first and then tails.
abbrev pub whole_by : {R : Type 0} → Node R → Phase → List R → List R → List R
whole_by v Emitting x y = v.table
whole_by v Folding x y = cond v.streams (v.part y x ++ cond v.tails (v.rest y x) []) (cond v.tails (v.rest x []) x)
whole_by v Streaming x y = v.part [] x
whole_by v Tailing x y = []
whole_by v Sealed x y = []
whole_by v Done x y = []

abbrev pub whole : {R : Type 0} → Node R → List R → List R → List R
whole v x y = whole_by v v.start x y

module _ {R : Type 0} (P : Plan R) where
  -- the rows of node n, with at most k nodes on the way from a source to it
  unfoldable pub meaning_within : ℕ → ℕ → List R
  meaning_within zero n = []
  meaning_within (suc k) n = whole (P.node n) (meaning_within k (P.node n).first) (meaning_within k (P.node n).second)

  -- The rows of node n. As inputs stand before their user, n nodes on the way are enough.
  abbrev pub meaning : ℕ → List R
  meaning n = meaning_within n n
